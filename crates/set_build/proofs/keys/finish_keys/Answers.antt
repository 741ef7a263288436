use Rattle.std.proofs.Common.{List, subst, arith}
use Rattle.std.proofs.lemmas.List.{nil_from_length}
use Rattle.std.specs.Vec.Iter.{into_iter_items}
use Rattle.kblock.specs.declared.building.KeyBlockBuilder.{KeyBlockBuilder}
use Rattle.set_build.specs.Builders.{HoldsKeys, block_bytes}
use Rattle.set_build.proofs.FinishLemmas.{Left, next_of, all_done}
use Rattle.set_build.proofs.keys.finish_keys.Goals as goal

pub finish-requires : goal.finish-requires
finish-requires c =
    let r = c.requires in
    let left = subst (λ (bs : List KeyBlockBuilder). Left (HoldsKeys r.0) block_bytes r.1 bs c.loop-block.done.items) c.in-Some.ensures.steps.0 (c.loop-block.invariant.left r.0 r.1 r.2) in
    let next = next_of (HoldsKeys r.0) block_bytes r.1 c.in-Some.block (into_iter_items c.next.new.self) c.loop-block.done.items left in
    (r.0, next.block.full, next.block.page, next.holds.0, next.holds.1)

pub loop-block-preserved : goal.loop-block-preserved
loop-block-preserved c = record {
  goes = tt;
  ends = tt;
  left = λ slot held holds.
      let left = subst (λ (bs : List KeyBlockBuilder). Left (HoldsKeys slot) block_bytes held bs c.loop-block.done.items) c.in-Some.ensures.steps.0 (c.loop-block.invariant.left slot held holds) in
      let next = next_of (HoldsKeys slot) block_bytes held c.in-Some.block (into_iter_items c.next.new.self) c.loop-block.done.items left in
      rw c.in_ok-push.ensures.items (next.finished c.finish.result (c.finish.ensures slot next.block.full next.block.page next.holds.0));
}

pub returns : goal.returns
returns c = λ slot held holds.
    all_done (HoldsKeys slot) block_bytes held (into_iter_items c.loop-block.block-iterator) c.loop-block.done.items (c.loop-block.invariant.left slot held holds)
    (nil_from_length (into_iter_items c.loop-block.block-iterator) (omega (arith, c.loop-block.block-iterator.rest.ok.0, c.in-None.ensures.steps.0)))
