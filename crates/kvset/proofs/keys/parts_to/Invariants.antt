use Rattle.std.proofs.Common.{◌≡◌, ◌≤◌, ◌-◌, length, true}
use Rattle.std.specs.Prelude.{slice_get}
use Rattle.kvset.specs.Keys.{behind_at, IsUpTo}
use Rattle.kvset.proofs.keys.parts_to.Given as goal

abbrev pub invariant-loop-low : goal.invariant-loop-low
invariant-loop-low l = record {
  ordered : l.low ≤ l.high;
  within : l.high ≤ length l.parts;
  below : IsUpTo l.aim l.parts l.low;
  above : behind_at l.aim (slice_get l.parts l.high) ≡ true;
}

abbrev pub decreases-loop-low : goal.decreases-loop-low
decreases-loop-low l = l.high - l.low
