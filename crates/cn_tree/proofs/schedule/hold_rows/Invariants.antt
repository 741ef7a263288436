use Rattle.std.proofs.Common.{◌≡◌, drop, map}
use Rattle.std.specs.Prelude.{nat_le}
use Rattle.cn_tree.specs.Schedule.{rows_in}
use Rattle.cn_tree.proofs.schedule.hold_rows.Given as goal

-- whether the rest holds what is left says whether all hold it
abbrev pub invariant-loop-set : goal.invariant-loop-set
invariant-loop-set g l =
    nat_le l.left (rows_in (map g.R.RowSet.rows (drop l.set-index l.sets))) ≡ nat_le l.fn.least (rows_in (map g.R.RowSet.rows l.fn.sets))
