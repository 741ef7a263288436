use Rattle.std.proofs.Common.{◌≡◌, length, map}
use Rattle.std.specs.Arc.{arc_value}
use Rattle.hse_fields.specs.BlockText.{header_size}
use Rattle.kblock.specs.Walking.{placed_pages}
use Rattle.kvset.specs.Reading.{met_in}
use Rattle.kvset.proofs.meeting.test_part.Given as goal

abbrev pub invariant-loop-at : goal.invariant-loop-at
invariant-loop-at l =
    met_in l.fn.part.slot (map arc_value l.fn.values) l.walk ≡ met_in l.fn.part.slot (map arc_value l.fn.values) (placed_pages header_size l.fn.part.block)

abbrev pub decreases-loop-at : goal.decreases-loop-at
decreases-loop-at l = length l.walk
