use Rattle.std.proofs.Common.{◌≡◌, ◌++◌, map, drop}
use Rattle.std.specs.Arc.{arc_value}
use Rattle.kvset.proofs.values.put_blocks.Given as goal

abbrev pub invariant-loop-block : goal.invariant-loop-block
invariant-loop-block l =
    map arc_value l.into.items ++ map arc_value (drop l.block-index l.blocks) ≡ map arc_value l.initial.into.items ++ map arc_value l.fn.blocks
