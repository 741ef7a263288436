use Rattle.std.proofs.Common.{arith}
use Rattle.kvset.proofs.KeyLemmas.{counted}
use Rattle.kvset.proofs.keys.is_behind.Goals as goal

pub entry-requires : goal.entry-requires
entry-requires c = omega (arith, c.requires, counted c.args.part.now.block)
