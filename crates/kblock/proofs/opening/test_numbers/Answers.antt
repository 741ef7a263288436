use Rattle.std.proofs.Common.{◌≡◌, ◌+◌, ◌-◌, ◌<◌, sym, ap, ◌∙◌, arith, take, drop, subst, ℕ, List}
use Rattle.hse_fields.specs.BlockReading.{counts_of, count_in}
use Rattle.hse_fields.specs.BlockText.{page_size}
use Rattle.kblock.proofs.ReadingLoops.{numbers_go_on, numbers_stop, numbers_are_done}
use Rattle.kblock.proofs.opening.test_numbers.Goals as goal

pub returns-in-Err-clause-gives : goal.returns-in-Err-clause-gives
returns-in-Err-clause-gives c =
    numbers_stop c.loop.before c.args.count c.loop.counter c.loop.rest.now c.loop.left.now (counts_of 0 c.args.count c.args.pages.now c.args.numbers.now) c.in-Err.refusal.left c.loop-test.true c.in-Err.ensures.gives c.loop.invariant.read

pub loop-preserved : goal.loop-preserved
loop-preserved c =
    let total = counts_of 0 c.args.count c.args.pages.now c.args.numbers.now in
    let left = c.args.count - (c.loop.counter + 1) in
    let keys : c.keys_in.result ≡ count_in (take page_size c.loop.rest.now) = c.keys_in.ensures ∙ ap count_in c.split_at.ensures.front in
    let on = numbers_go_on c.loop.before c.args.count c.loop.counter c.loop.rest.now c.loop.left.now total c.in-Ok.others.now c.loop-test.true c.in-Ok.ensures.gives c.loop.invariant.read in
    let few : c.keys_in.result < 65536 = c.keys_in.type_inv in
    let here = subst (λ (n : ℕ). counts_of (c.loop.before + n) left (drop page_size c.loop.rest.now) c.in-Ok.others.now ≡ total) (sym keys) on in
    record {
      read = subst (λ (l : List ℕ). counts_of (c.loop.before + c.keys_in.result) left l c.in-Ok.others.now ≡ total) (sym c.split_at.ensures.back) here;
      room = omega (arith, c.loop.invariant.room, c.split_at.ensures.back_len, c.loop-test.true);
      small = omega (arith, c.loop.invariant.small, few);
      shorter = omega (arith, c.in-Ok.ensures.behind, c.loop.invariant.shorter);
    }

pub returns-clause-gives : goal.returns-clause-gives
returns-clause-gives c =
    numbers_are_done c.loop.before c.args.count c.loop.counter c.loop.rest.now c.loop.left.now (counts_of 0 c.args.count c.args.pages.now c.args.numbers.now) c.loop-test.false c.loop.invariant.read
