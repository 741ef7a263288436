use Rattle.std.proofs.Common.{◌≡◌, drop, map}
use Rattle.std.specs.Arc.{arc_value}
use Rattle.kvset.specs.Keys.{blocks_of, part_slots}
use Rattle.kvset.specs.Reading.{met_by}
use Rattle.kvset.proofs.meeting.test_parts.Given as goal

abbrev pub invariant-loop-part : goal.invariant-loop-part
invariant-loop-part l =
    met_by (part_slots (drop l.part-index l.fn.parts)) (map arc_value l.fn.values) (blocks_of (drop l.part-index l.fn.parts))
    ≡ met_by (part_slots l.fn.parts) (map arc_value l.fn.values) (blocks_of l.fn.parts)
