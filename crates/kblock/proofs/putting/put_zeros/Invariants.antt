use Rattle.std.proofs.Common.{◌≡◌, ◌≤◌, ◌++◌}
use Rattle.std.specs.Prelude.{replicate, vec_capacity}
use Rattle.kblock.proofs.putting.put_zeros.Given as goal

abbrev pub invariant-loop : goal.invariant-loop
invariant-loop l = record {
  items : l.into.items ≡ l.fn.into.items ++ replicate l.counter 0;
  capacity : vec_capacity l.fn.into ≤ vec_capacity l.into;
}
