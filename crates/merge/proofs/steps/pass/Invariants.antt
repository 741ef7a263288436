use Rattle.std.proofs.Common.{◌≡◌, take, map}
use Rattle.merge.specs.Places.{direction_of, all_passed}
use Rattle.merge.proofs.steps.pass.Given as goal

-- the places of the sources so far are past the key
abbrev pub invariant-loop-at : goal.invariant-loop-at
invariant-loop-at g l = l.places ≡ all_passed (direction_of l.fn.reverse) l.fn.key (map g.R.RowSet.rows (take l.at l.sources)) l.initial.places
