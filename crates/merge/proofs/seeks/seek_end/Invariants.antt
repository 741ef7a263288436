use Rattle.std.proofs.Common.{◌≡◌, take, map}
use Rattle.hse_rows.specs.script.Cursor.{backward, front}
use Rattle.merge.specs.Places.{place_by, all_placed}
use Rattle.merge.proofs.seeks.seek_end.Given as goal

-- the places of the sources so far are their ends
abbrev pub invariant-loop-at : goal.invariant-loop-at
invariant-loop-at g l =
    l.places ≡ all_placed (place_by backward front) (map g.R.RowSet.rows (take l.at l.sources)) l.initial.places
