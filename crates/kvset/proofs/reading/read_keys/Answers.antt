use Rattle.std.proofs.Common.{◌≡◌, ◌∙◌, ◌+◌, ◌++◌, ◌∷◌, [], None, length, sym, ap, subst, arith, length-append}
use Rattle.std.proofs.lemmas.Result.{err_from_is_err_and}
use Rattle.std.proofs.lemmas.List.{nil_from_length}
use Rattle.hse_fields.specs.BlockGiven.{lent}
use Rattle.hse_fields.specs.BlockReading.{key_block_of, last_key}
use Rattle.kvset.specs.Keys.{all_keys, blocks_of, keys_in, part_slots, AreParts}
use Rattle.kvset.specs.Reading.{in_slot, pages_of, slots_of, IsPart, Refuses}
use Rattle.kvset.proofs.KeyLemmas.{counted}
use Rattle.kvset.proofs.PartLemmas.{all_pushed, parts_pushed}
use Rattle.kvset.proofs.OpeningLemmas.{with_front, keys_go_on, keys_stop, keys_are_done, slots_go_on}
use Rattle.kvset.proofs.reading.read_keys.Goals as goal

pub returns-in_err-part-clause-refused : goal.returns-in_err-part-clause-refused
returns-in_err-part-clause-refused c =
    let p = err_from_is_err_and c.from_residual.result c.from_residual.ensures.1 in
    let total = pages_of None c.args.blocks.items in
    let parts = c.loop-block.parts.items in
    let last : lent c.last_of.result ≡ last_key None (all_keys parts) = c.last_of.ensures ∙ ap (λ l. last_key None (all_keys l)) c.deref.ensures.value in
    let fault = c.in_err-part.field-0.0 in
    let refused = subst (λ o. Refuses (in_slot c.in-Some.block.slot (key_block_of o c.in-Some.block.bytes.items)) fault) last c.in_err-part.ensures.refused in
    let so_far = subst (λ l. with_front (blocks_of parts) (pages_of (last_key None (all_keys parts)) l) ≡ total) c.in-Some.ensures.steps.0 c.loop-block.invariant.read in
    rw (p.1, p.2) (keys_stop (blocks_of parts) (last_key None (all_keys parts)) c.in-Some.block c.next.new.self.rest.items fault total refused so_far)

pub loop-block-preserved : goal.loop-block-preserved
loop-block-preserved c =
    let total = pages_of None c.args.blocks.items in
    let parts = c.loop-block.parts.items in
    let part = c.in_ok-part.part in
    let rest = c.next.new.self.rest.items in
    let block = c.in-Some.block in
    let last : lent c.last_of.result ≡ last_key None (all_keys parts) = c.last_of.ensures ∙ ap (λ l. last_key None (all_keys l)) c.deref.ensures.value in
    let is : IsPart (last_key None (all_keys parts)) c.loop-block.count block part = subst (λ o. IsPart o c.loop-block.count block part) last c.in_ok-part.ensures.read in
    let so_far = subst (λ l. with_front (blocks_of parts) (pages_of (last_key None (all_keys parts)) l) ≡ total) c.in-Some.ensures.steps.0 c.loop-block.invariant.read in
    let slots_so_far = subst (λ l. part_slots parts ++ slots_of l ≡ slots_of c.args.blocks.items) c.in-Some.ensures.steps.0 c.loop-block.invariant.slots in
    let pushed : c.put.new.parts.items ≡ parts ++ part ∷ [] = c.in_ok-put.ensures in
    let count = c.loop-block.invariant.counted in
    let are = parts_pushed parts part c.loop-block.invariant.are is.keys (is.from ∙ count) (omega (arith, is.few, count)) in
    let sum : c.loop-block.count + c.len-count.result ≡ length (all_keys (parts ++ part ∷ [])) =
    omega (arith, count, c.len-count.ensures.count, counted part.block, ap length (all_pushed parts part), length-append (all_keys parts) (keys_in part)) in
    record {
      read = subst (λ l. with_front (blocks_of l) (pages_of (last_key None (all_keys l)) rest) ≡ total) (sym pushed) (keys_go_on parts part block rest total is.read so_far);
      slots = subst (λ l. part_slots l ++ slots_of rest ≡ slots_of c.args.blocks.items) (sym pushed) (slots_go_on parts part block rest (slots_of c.args.blocks.items) is.slot slots_so_far);
      are = subst AreParts (sym pushed) are;
      counted = subst (λ l. c.loop-block.count + c.len-count.result ≡ length (all_keys l)) (sym pushed) sum;
    }

pub returns-clause-read : goal.returns-clause-read
returns-clause-read c =
    let parts = c.loop-block.parts.items in
    let none = nil_from_length c.loop-block.block-iterator.rest.items (omega (arith, c.in-None.ensures.steps.0, c.loop-block.block-iterator.rest.ok)) in
    keys_are_done (blocks_of parts) (last_key None (all_keys parts)) c.loop-block.block-iterator.rest.items (pages_of None c.args.blocks.items) none c.loop-block.invariant.read
