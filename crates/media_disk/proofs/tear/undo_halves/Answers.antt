use Rattle.std.proofs.Common.{rules, ◌≡◌, ◌∷◌, subst, ◌∙◌}
use Rattle.media_disk.specs.Record.{call_at}
use Rattle.media_disk.specs.declared.call.Work.{Work}
use Rattle.media_disk.proofs.HalfLemmas.{half-kept}
use Rattle.media_disk.proofs.tear.undo_halves.Goals as goal

pub loop-call-preserved-in-Write-1 : goal.loop-call-preserved-in-Write-1
loop-call-preserved-in-Write-1 c =
    let P : Work → Type 0 = λ work. c.loop-call.calls.items
    ≡ call_at c.in-Some.call.clock work c.in-Some.call.failed ∷ c.pop_front.new.self.items in
    let first = subst P c.in-Write.is c.in-Some.ensures.items in
    let old : c.deref.result.now ≡ c.in-Write.old.items = search rules in
    let kept = half-kept c.in-Some.call.clock c.in-Write.at c.in-Write.old c.in-Some.call.failed c.pop_front.new.self.items
    c.loop-call.bytes.items c.loop-call.halves.items c.in_ok-half-in-Write.half c.in_ok-half-in-Write.ensures.at
    (rw old at c.in_ok-half-in-Write.ensures.half) (rw first at c.loop-call.invariant.within) c.loop-call.invariant.fit in
    let undone = rw old at c.in_ok-half-in-Write.ensures.undone in
    record {
      same = rw (undone, c.in_ok-push-in-Write.ensures.items) (kept.same ∙ (rw first at c.loop-call.invariant.same));
      within = rw undone kept.within;
      fit = rw (undone, c.in_ok-push-in-Write.ensures.items) kept.fit;
    }
