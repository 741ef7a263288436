use Rattle.std.proofs.Common.{◌≤◌}
use Rattle.std.specs.List.{AllByRecursion}
use Rattle.ingest_tree.specs.declared.store_row.StoreRow.{StoreRow}
use Rattle.view_tests.proofs.reading.layer_of.Given as goal

abbrev pub invariant-loop-at : goal.invariant-loop-at
invariant-loop-at l = AllByRecursion (λ (row : StoreRow). row.row.number ≤ 2) l.layer
