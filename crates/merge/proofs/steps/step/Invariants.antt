use Rattle.std.proofs.Common.{◌≡◌, ◌≤◌, length, map}
use Rattle.hse_rows.specs.script.Cursor.{Position}
use Rattle.merge.specs.Places.{direction_of, all_left}
use Rattle.merge.specs.Steps.{GoesOn, AreAt}
use Rattle.merge.proofs.steps.step.Given as goal

-- from the places so far the merge goes on as from the first ones
abbrev pub invariant-loop-source : goal.invariant-loop-source
invariant-loop-source g l = record {
  same : length l.fn.sources ≡ length l.places;
  stands : AreAt (direction_of l.fn.reverse) (map g.R.RowSet.rows l.fn.sources) l.places;
  goes : (position : Position) → GoesOn (direction_of l.fn.reverse) position (map g.R.RowSet.rows l.fn.sources) l.fn.places
      → GoesOn (direction_of l.fn.reverse) position (map g.R.RowSet.rows l.fn.sources) l.places;
  fewer :
      all_left (direction_of l.fn.reverse) (map g.R.RowSet.rows l.fn.sources) l.places
      ≤ all_left (direction_of l.fn.reverse) (map g.R.RowSet.rows l.fn.sources) l.fn.places;
}

-- each turn leaves fewer rows ahead
abbrev pub decreases-loop-source : goal.decreases-loop-source
decreases-loop-source g l = all_left (direction_of l.fn.reverse) (map g.R.RowSet.rows l.fn.sources) l.places
