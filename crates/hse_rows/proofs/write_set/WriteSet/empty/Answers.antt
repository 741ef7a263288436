use Rattle.std.proofs.Common.{refl, lit<}
use Rattle.hse_rows.proofs.WriteLemmas.{rising-none}
use Rattle.hse_rows.proofs.write_set.WriteSet.empty.Goals as goal

pub invariant_of-result : goal.invariant_of-result
invariant_of-result c = record {
  rising = rw c.new.ensures.items rising-none;
  counted = rw c.new.ensures.items refl;
  fits = rw c.new.ensures.items (lit< tt);
}
