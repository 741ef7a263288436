use Rattle.std.proofs.Common.{◌≡◌, ℕ, true, List, length}
use Rattle.hse_rows.specs.writes.Change.{covers}
use Rattle.cursors.proofs.end.raised.Given as goal

-- what begins with the filter begins with what is left of it
abbrev pub invariant-loop-left : goal.invariant-loop-left
invariant-loop-left l = (key : List ℕ) → covers l.filter key ≡ true → covers l.left key ≡ true

abbrev pub decreases-loop-left : goal.decreases-loop-left
decreases-loop-left l = length l.left
