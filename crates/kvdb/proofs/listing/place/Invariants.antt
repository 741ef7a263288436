use Rattle.std.proofs.Common.{◌≡◌, ◌≤◌, ◌++◌, length, take, drop}
use Rattle.hse_rows.specs.writes.Sorted.{placed}
use Rattle.kvdb.specs.Listing.{line_cmp}
use Rattle.kvdb.proofs.listing.place.Given as goal

abbrev pub invariant-loop-rest : goal.invariant-loop-rest
invariant-loop-rest l =
    (l.at ≤ length l.lines) × (l.rest ≡ drop l.at l.lines)
    × (take l.at l.lines ++ placed line_cmp l.rest l.line ≡ placed line_cmp l.lines l.line)

abbrev pub decreases-loop-rest : goal.decreases-loop-rest
decreases-loop-rest l = length l.rest
