use Rattle.std.proofs.Common.{◌≡◌, drop, map}
use Rattle.hse_rows.specs.rows.Meaning.{greater}
use Rattle.row_laws.specs.Next.{covered_in}
use Rattle.merge.proofs.covers.cover.Given as goal

-- the greatest so far and that of the rest is that of all
abbrev pub invariant-loop-source : goal.invariant-loop-source
invariant-loop-source g l =
    let rows = g.R.RowSet.rows in
    greater l.greatest (covered_in l.fn.key (map rows (drop l.source-index l.sources))) ≡ covered_in l.fn.key (map rows l.fn.sources)
