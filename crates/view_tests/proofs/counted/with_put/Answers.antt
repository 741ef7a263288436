use Rattle.std.proofs.Common.{◌≤◌, sym, subst, arith}
use Rattle.std.specs.List.{AllByRecursion}
use Rattle.ingest_tree.specs.declared.store_row.StoreRow.{StoreRow}
use Rattle.ingest_tree.specs.Rows.{store_row, row_numbered}
use Rattle.hse_rows.specs.declared.change.Change.TheVariants.{Put}
use Rattle.view.specs.Layers.{each-with}
use Rattle.view.specs.Routed.{FitsStore}
use Rattle.view_tests.proofs.counted.with_put.Goals as goal

pub returns : goal.returns
returns c =
    subst (AllByRecursion (λ (row : StoreRow). (row.row.number ≤ 1) × FitsStore 0 row.row.change)) (sym c.in_ok-with_row.ensures)
    (each-with (λ (row : StoreRow). (row.row.number ≤ 1) × FitsStore 0 row.row.change) c.args.layer.now
    (store_row (record { 0 = 1 }) (row_numbered 1 (Put c.in_ok-key.key c.in_ok-value.value))) c.requires (omega arith, tt))
