use Rattle.std.proofs.Common.{◌≡◌, ◌+◌, ◌-◌, ◌<◌, sym, ap, ◌∙◌, arith, take, drop, subst, ℕ, List}
use Rattle.hse_fields.specs.BlockReading.{count_all, count_in}
use Rattle.hse_fields.specs.BlockText.{page_size}
use Rattle.kblock.proofs.ReadingLoops.{count_more}
use Rattle.kblock.proofs.opening.count_all.Goals as goal

pub loop-preserved : goal.loop-preserved
loop-preserved c =
    let keys : c.keys_in.result ≡ count_in (take page_size c.loop.rest.now) = c.keys_in.ensures ∙ ap count_in c.split_at.ensures.front in
    let more = count_more c.args.count c.loop.counter c.loop.rest.now c.loop-test.true in
    let left = count_all (c.args.count - (c.loop.counter + 1)) (drop page_size c.loop.rest.now) in
    let few : c.keys_in.result < 65536 = c.keys_in.type_inv in
    let counted : c.loop.all + c.keys_in.result + left ≡ count_all c.args.count c.args.pages.now =
    omega (arith, c.loop.invariant.counted, more, keys) in
    record {
      counted = subst (λ (l : List ℕ). c.loop.all + c.keys_in.result + count_all (c.args.count - (c.loop.counter + 1)) l ≡ count_all c.args.count c.args.pages.now) (sym c.split_at.ensures.back) counted;
      room = omega (arith, c.loop.invariant.room, c.split_at.ensures.back_len, c.loop-test.true);
      small = omega (arith, c.loop.invariant.small, few);
    }
