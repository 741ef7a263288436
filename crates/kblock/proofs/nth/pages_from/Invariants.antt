use Rattle.std.proofs.Common.{◌≤◌, ◌-◌}
use Rattle.kblock.specs.Searching.{IsBefore, IsFrom}
use Rattle.kblock.proofs.nth.pages_from.Given as goal

abbrev pub invariant-loop-low : goal.invariant-loop-low
invariant-loop-low l = record {
  ordered : l.low ≤ l.high;
  within : l.high ≤ l.count;
  below : IsFrom l.at l.numbers l.low;
  above : IsBefore l.at l.numbers l.count l.high;
}

abbrev pub decreases-loop-low : goal.decreases-loop-low
decreases-loop-low l = l.high - l.low
