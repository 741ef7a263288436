use Rattle.std.proofs.Common.{◌≡◌, map}
use Rattle.std.specs.Arc.{arc_value}
use Rattle.kvset.specs.Reading.{values_of}
use Rattle.kvset.proofs.OpeningLemmas.{with_front}
use Rattle.kvset.proofs.values.read_values.Given as goal

abbrev pub invariant-loop-block : goal.invariant-loop-block
invariant-loop-block l =
    with_front (map arc_value l.opened.items) (values_of l.fn.slot l.block-iterator.rest.items) ≡ values_of l.fn.slot l.fn.blocks.items
