use Rattle.std.proofs.Common.{◌≡◌, ◌++◌, map, take}
use Rattle.ingest_tree.specs.Rows.{rows_in}
use Rattle.cursors.specs.Sources.{source_rows}
use Rattle.cursors.proofs.sources.add_layers.Given as goal

-- the sources so far are those of the layers so far
abbrev pub invariant-loop-at : goal.invariant-loop-at
invariant-loop-at g l =
    map (source_rows g.R.RowSet.rows) l.sources.items
    ≡ map (source_rows g.R.RowSet.rows) l.fn.sources.items ++ map (rows_in l.fn.store.0) (take l.at l.fn.view.layers)
