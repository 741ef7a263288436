use Rattle.std.proofs.Common.{◌≤◌}
use Rattle.std.specs.List.{AllByRecursion}
use Rattle.ingest_tree.specs.declared.store_row.StoreRow.{StoreRow}
use Rattle.view.specs.Routed.{FitsStore}
use Rattle.view_tests.proofs.counted.rows_of.Given as goal

abbrev pub invariant-loop-at : goal.invariant-loop-at
invariant-loop-at l = AllByRecursion (λ (row : StoreRow). (row.row.number ≤ 1) × FitsStore 0 row.row.change) l.layer
