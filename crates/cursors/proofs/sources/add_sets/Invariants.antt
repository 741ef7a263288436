use Rattle.std.proofs.Common.{◌≡◌, ◌++◌, map, drop}
use Rattle.cursors.specs.Sources.{source_rows}
use Rattle.cursors.proofs.sources.add_sets.Given as goal

-- the sources so far with those of the rest are all
abbrev pub invariant-loop-set : goal.invariant-loop-set
invariant-loop-set g l =
    map (source_rows g.R.RowSet.rows) l.sources.items ++ map g.R.RowSet.rows (drop l.set-index l.sets)
    ≡ map (source_rows g.R.RowSet.rows) l.fn.sources.items ++ map g.R.RowSet.rows l.fn.sets
