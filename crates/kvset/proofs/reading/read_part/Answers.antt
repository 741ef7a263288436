use Rattle.std.proofs.Common.{arith}
use Rattle.kvset.proofs.KeyLemmas.{counted}
use Rattle.std.proofs.Common.{refl}
use Rattle.kvset.proofs.reading.read_part.Goals as goal

pub returns-else-len-before-clause-read : goal.returns-else-len-before-clause-read
returns-else-len-before-clause-read c = record {
  read = c.in-Ok.ensures.told;
  keys = c.in-Ok.ensures.known;
  slot = refl;
  from = refl;
  few = omega (arith, c.if-len-before.false, c.len.ensures.count, counted c.in-Ok.opened, c.requires);
}
