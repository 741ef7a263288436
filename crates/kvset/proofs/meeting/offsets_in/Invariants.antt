use Rattle.std.proofs.Common.{◌≡◌, ◌++◌, drop, map}
use Rattle.std.specs.Arc.{arc_value}
use Rattle.vblock.specs.Places.{offsets_of}
use Rattle.kvset.specs.Meeting.{lists_in}
use Rattle.kvset.proofs.meeting.offsets_in.Given as goal

abbrev pub invariant-loop-block : goal.invariant-loop-block
invariant-loop-block l =
    lists_in l.all.items ++ map offsets_of (map arc_value (drop l.block-index l.fn.values)) ≡ map offsets_of (map arc_value l.fn.values)
