use Rattle.std.proofs.Common.{◌≤◌, sym, subst}
use Rattle.std.specs.List.{AllByRecursion}
use Rattle.hse_rows.specs.declared.row.Row.{Row}
use Rattle.view.specs.Layers.{row-each, each-of_store}
use Rattle.view.specs.Routed.{FitsStore}
use Rattle.view_tests.proofs.counted.rows_of.Goals as goal

abbrev IsOldPut : Row → Type 0
IsOldPut row = (row.number ≤ 1) × FitsStore 0 row.change

pub returns : goal.returns
returns c =
    subst (AllByRecursion IsOldPut) (sym c.in_ok-rows.ensures)
    (each-of_store IsOldPut 1 c.loop-at.layer (row-each IsOldPut c.loop-at.layer c.loop-at.invariant))
