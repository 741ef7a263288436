use Rattle.std.proofs.Common.{◌≡◌, take}
use Rattle.std.specs.List.{filter}
use Rattle.hse_rows.specs.writes.NormalForm.{stays}
use Rattle.hse_rows.specs.writes.Charge.{writes_bytes}
use Rattle.hse_rows.proofs.places.walk_kept.Given as goal

abbrev pub invariant-loop-write : goal.invariant-loop-write
invariant-loop-write l =
    l.kept ≡ writes_bytes (filter (stays (record { store = l.store; change = l.change })) (take l.write-index l.writes))
