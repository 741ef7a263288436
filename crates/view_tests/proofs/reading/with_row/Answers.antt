use Rattle.std.proofs.Common.{◌≤◌, sym, subst, arith}
use Rattle.std.specs.List.{AllByRecursion}
use Rattle.std.proofs.lemmas.Result.{IfOk-weaker}
use Rattle.ingest_tree.specs.declared.store_row.StoreRow.{StoreRow}
use Rattle.ingest_tree.specs.Rows.{store_row, row_numbered}
use Rattle.view.specs.Layers.{each-with}
use Rattle.view_tests.proofs.reading.with_row.Goals as goal

pub returns : goal.returns
returns c =
    IfOk-weaker c.with_row.result _ _
    (λ layer is.
    subst (AllByRecursion (λ (row : StoreRow). row.row.number ≤ 2)) (sym is)
    (each-with (λ (row : StoreRow). row.row.number ≤ 2) c.args.layer.now (store_row (record { 0 = 1 }) (row_numbered 2 c.args.change)) c.requires (omega arith)))
    c.with_row.ensures
