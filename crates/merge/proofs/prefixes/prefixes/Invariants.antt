use Rattle.std.proofs.Common.{◌≡◌, [], drop, map}
use Rattle.row_laws.specs.Sources.{all_rows}
use Rattle.merge.specs.Deletes.{with_deletes}
use Rattle.merge.proofs.prefixes.prefixes.Given as goal

-- the list so far with the rest of the sources is that of all
abbrev pub invariant-loop-source : goal.invariant-loop-source
invariant-loop-source g l =
    with_deletes l.list (all_rows (map g.R.RowSet.rows (drop l.source-index l.sources))) ≡ with_deletes [] (all_rows (map g.R.RowSet.rows l.fn.sources))
