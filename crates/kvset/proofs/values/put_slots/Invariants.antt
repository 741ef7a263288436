use Rattle.std.proofs.Common.{◌≡◌, ◌++◌, drop}
use Rattle.kvset.specs.Reading.{slots_of}
use Rattle.kvset.proofs.values.put_slots.Given as goal

abbrev pub invariant-loop-block : goal.invariant-loop-block
invariant-loop-block l = l.slots.items ++ slots_of (drop l.block-index l.fn.blocks) ≡ l.fn.slots.items ++ slots_of l.fn.blocks
