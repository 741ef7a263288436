use Rattle.std.proofs.Common.{◌≤◌, ◌-◌}
use Rattle.kblock.specs.Searching.{IsBehind, IsUpTo}
use Rattle.kblock.proofs.search.pages_to.Given as goal

abbrev pub invariant-loop-low : goal.invariant-loop-low
invariant-loop-low l = record {
  ordered : l.low ≤ l.high;
  within : l.high ≤ l.count;
  below : IsUpTo l.key l.pages l.low;
  above : IsBehind l.key l.pages l.count l.high;
}

abbrev pub decreases-loop-low : goal.decreases-loop-low
decreases-loop-low l = l.high - l.low
