use Rattle.std.proofs.Common.{◌≡◌, ◌+◌, ◌<◌, ◌^◌, length}
use Rattle.std.specs.List.{flat_map}
use Rattle.manifest.specs.Text.{store_text}
use Rattle.manifest.specs.Views.{stores_as}
use Rattle.manifest.proofs.size.have_room.Given as goal

abbrev pub invariant-loop-rest : goal.invariant-loop-rest
invariant-loop-rest l = record {
  short : l.total < 2 ^ 32;
  left : l.total + length (flat_map store_text (stores_as l.rest)) ≡ l.size + length (flat_map store_text (stores_as l.stores));
}

abbrev pub decreases-loop-rest : goal.decreases-loop-rest
decreases-loop-rest l = length l.rest
