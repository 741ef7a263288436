use Rattle.std.proofs.Common.{◌≡◌, length}
use Rattle.wal.specs.Live.{prefix_fits}
use Rattle.wal.proofs.live.prefix_may.Given as goal

abbrev pub invariant-loop-rest : goal.invariant-loop-rest
invariant-loop-rest l = prefix_fits l.rest l.store l.size ≡ prefix_fits l.live l.store l.size

abbrev pub decreases-loop-rest : goal.decreases-loop-rest
decreases-loop-rest l = length l.rest
