use Rattle.std.proofs.Common.{◌≡◌, drop, map, None}
use Rattle.std.specs.Prelude.{IfSome}
use Rattle.std.specs.Option.{option_map}
use Rattle.hse_rows.specs.rows.RowSets.{row_of, row_by}
use Rattle.merge.specs.Places.{direction_of, soonest, IsHead}
use Rattle.merge.proofs.steps.soonest_of.Given as goal

-- the soonest so far and of the rest is that of all
abbrev pub invariant-loop-at : goal.invariant-loop-at
invariant-loop-at g l = record {
  row :
      soonest (direction_of l.fn.reverse) (row_by (option_map (λ h. h.1) l.best)) (map g.R.RowSet.rows (drop l.at l.sources)) (drop l.at l.places)
      ≡ soonest (direction_of l.fn.reverse) None (map g.R.RowSet.rows l.fn.sources) l.fn.places;
  head : IfSome l.best (λ h. IsHead (direction_of l.fn.reverse) (map g.R.RowSet.rows l.fn.sources) l.fn.places h.0 (row_of h.1));
}
