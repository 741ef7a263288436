use Rattle.std.proofs.Common.{◌≡◌, ◌+◌, ◌-◌, arith, Ok, Err, sym, subst, ℕ, List}
use Rattle.hse_fields.specs.BlockReading.{pages_of, page_of}
use Rattle.hse_fields.specs.BlockText.{header_size, page_size}
use Rattle.hse_fields.specs.BlockGiven.{lent}
use Rattle.kblock.specs.Reading.{page_ends, passes}
use Rattle.kblock.proofs.ReadingLoops.{pages_go_on, pages_stop, pages_are_done}
use Rattle.kblock.proofs.opening.test_pages.Goals as goal

pub returns-in-Err : goal.returns-in-Err
returns-in-Err c =
    let last = lent c.loop.above in
    let refused = subst (λ (p : List ℕ). page_ends last (page_of last p) ≡ Err c.in-Err.refusal.left) c.split_at.ensures.front c.in-Err.ensures.gives in
    rw c.placed.ensures
    (pages_stop c.loop.start last c.args.count c.loop.counter c.loop.rest.now (passes (pages_of header_size (lent c.args.last) c.args.count c.args.pages.now)) c.in-Err.refusal.left c.loop-test.true refused c.loop.invariant.read)

pub loop-preserved : goal.loop-preserved
loop-preserved c =
    let last = lent c.loop.above in
    let total = passes (pages_of header_size (lent c.args.last) c.args.count c.args.pages.now) in
    let left = c.args.count - (c.loop.counter + 1) in
    let ended = subst (λ (p : List ℕ). page_ends last (page_of last p) ≡ Ok (lent c.in-Ok.end)) c.split_at.ensures.front c.in-Ok.ensures.gives in
    let on = pages_go_on c.loop.start last c.args.count c.loop.counter c.loop.rest.now total (lent c.in-Ok.end) c.loop-test.true ended c.loop.invariant.read in
    record {
      read = subst (λ (l : List ℕ). passes (pages_of (c.loop.start + page_size) (lent c.in-Ok.end) left l) ≡ total) (sym c.split_at.ensures.back) on;
      room = omega (arith, c.loop.invariant.room, c.split_at.ensures.back_len, c.loop-test.true);
      small = omega (arith, c.loop.invariant.small);
    }

pub returns : goal.returns
returns c =
    pages_are_done c.loop.start (lent c.loop.above) c.args.count c.loop.counter c.loop.rest.now (passes (pages_of header_size (lent c.args.last) c.args.count c.args.pages.now)) c.loop-test.false c.loop.invariant.read
