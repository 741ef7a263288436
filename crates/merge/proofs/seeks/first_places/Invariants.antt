use Rattle.std.proofs.Common.{◌≡◌, ◌++◌, drop, map}
use Rattle.hse_rows.specs.script.Cursor.{forward, front}
use Rattle.merge.specs.Places.{places_by}
use Rattle.merge.proofs.seeks.first_places.Given as goal

-- the places so far with those of the rest are all
abbrev pub invariant-loop-source : goal.invariant-loop-source
invariant-loop-source g l =
    l.places.items ++ places_by forward front (map g.R.RowSet.rows (drop l.source-index l.sources)) ≡ places_by forward front (map g.R.RowSet.rows l.fn.sources)
