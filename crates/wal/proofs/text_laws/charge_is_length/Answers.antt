use Rattle.std.proofs.Common.{arith}
use Rattle.wal.proofs.LengthLemmas.{length-all}
use Rattle.wal.proofs.text_laws.charge_is_length.Goals as goal

pub returns : goal.returns
returns c = λ commit. let all = length-all commit.writes in omega (arith, all)
