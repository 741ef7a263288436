use Rattle.std.proofs.Common.{ℕ, List}
use Rattle.std.specs.Vec.Iter.{into_iter_items}
use Rattle.hse_fields.specs.BlockText.{value_block_text}
use Rattle.set_build.specs.Builders.{HoldsValues, HoldValues}
use Rattle.set_build.proofs.FinishLemmas.{Left}
use Rattle.set_build.proofs.values.finish_values.Given as goal

abbrev pub invariant-loop-block : goal.invariant-loop-block
invariant-loop-block l = record {
  goes : (goal.iterator-loop-block).can_next l.block-iterator;
  ends : (goal.iterator-loop-block).is_finite l.block-iterator;
  left : (slot : ℕ) (held : List (List (List ℕ))) → HoldValues slot held l.fn.blocks.items
      → Left (HoldsValues slot) value_block_text held (into_iter_items l.block-iterator) l.done.items;
}
