use Rattle.std.proofs.Common.{◌≡◌, take}
use Rattle.hse_rows.proofs.write_set.copy_writes.Given as goal

abbrev pub invariant-loop-write : goal.invariant-loop-write
invariant-loop-write l = l.copy.items ≡ take l.write-index l.writes
