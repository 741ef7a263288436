use Rattle.std.proofs.Common.{◌≡◌, ◌≤◌, ◌+◌, length}
use Rattle.device_layout.specs.Superblock.{zero_refused}
use Rattle.device_layout.proofs.superblock.refused_zero.Given as goal

abbrev pub invariant-loop-rest : goal.invariant-loop-rest
invariant-loop-rest l = record {
  inside : l.at + length l.rest ≤ 5000;
  left : zero_refused l.at l.rest ≡ zero_refused 36 l.zeros;
}

abbrev pub decreases-loop-rest : goal.decreases-loop-rest
decreases-loop-rest l = length l.rest
