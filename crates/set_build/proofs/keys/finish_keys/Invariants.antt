use Rattle.std.proofs.Common.{ℕ, List}
use Rattle.std.specs.Vec.Iter.{into_iter_items}
use Rattle.set_build.specs.Builders.{HoldsKeys, HoldKeys, OpenBlock, block_bytes}
use Rattle.set_build.proofs.FinishLemmas.{Left}
use Rattle.set_build.proofs.keys.finish_keys.Given as goal

abbrev pub invariant-loop-block : goal.invariant-loop-block
invariant-loop-block l = record {
  goes : (goal.iterator-loop-block).can_next l.block-iterator;
  ends : (goal.iterator-loop-block).is_finite l.block-iterator;
  left : (slot : ℕ) (held : List OpenBlock) → HoldKeys slot held l.fn.blocks.items
      → Left (HoldsKeys slot) block_bytes held (into_iter_items l.block-iterator) l.done.items;
}
