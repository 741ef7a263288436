use Rattle.std.proofs.Common.{[], arith}
use Rattle.kblock.proofs.WalkLemmas.{begun, none_is_read}
use Rattle.kblock.proofs.walk.walk_on.Goals as goal

pub invariant_of-result : goal.invariant_of-result
invariant_of-result c = record {
  keys = none_is_read [];
  pages = c.requires.read;
  keys_fit = λ i. omega arith;
  pages_fit = λ i. omega (arith, c.type_inv.body i);
  room = c.requires.room;
  small = omega (arith, c.ranges.count.fits);
}

pub returns : goal.returns
returns c = begun c.args.count c.args.body.now
