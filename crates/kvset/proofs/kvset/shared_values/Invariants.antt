use Rattle.std.proofs.Common.{◌≡◌, ◌++◌, length, map, drop}
use Rattle.std.specs.Arc.{arc_value}
use Rattle.kvset.specs.Reading.{slots_over, values_over}
use Rattle.kvset.proofs.kvset.shared_values.Given as goal

abbrev pub invariant-loop-set : goal.invariant-loop-set
invariant-loop-set l =
    (length l.slots.items ≡ length l.blocks.items) × (l.slots.items ++ slots_over (drop l.set-index l.run) ≡ slots_over l.run) × (map arc_value l.blocks.items ++ values_over (drop l.set-index l.run) ≡ values_over l.run)
