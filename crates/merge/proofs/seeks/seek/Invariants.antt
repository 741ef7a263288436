use Rattle.std.proofs.Common.{◌≡◌, take, map}
use Rattle.row_laws.specs.Next.{position_of}
use Rattle.merge.specs.Places.{direction_of, place_by, all_placed}
use Rattle.merge.proofs.seeks.seek.Given as goal

-- the places of the sources so far are those of the position
abbrev pub invariant-loop-at : goal.invariant-loop-at
invariant-loop-at g l =
    l.places ≡ all_placed (place_by (direction_of l.fn.reverse) (position_of l.fn.past l.fn.edge)) (map g.R.RowSet.rows (take l.at l.sources)) l.initial.places
