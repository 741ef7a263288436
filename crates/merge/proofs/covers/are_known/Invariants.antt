use Rattle.std.proofs.Common.{drop, map}
use Rattle.std.specs.List.{AllByRecursion}
use Rattle.hse_rows.specs.rows.RowSets.{AreRows}
use Rattle.merge.proofs.covers.are_known.Given as goal

-- where the rest are known, all are
abbrev pub invariant-loop-source : goal.invariant-loop-source
invariant-loop-source g l =
    let rows = g.R.RowSet.rows in
    AllByRecursion AreRows (map rows (drop l.source-index l.sources)) → AllByRecursion AreRows (map rows l.fn.sources)
