use Rattle.std.proofs.Common.{◌≡◌, rules, sym, ◌∙◌}
use Rattle.media_disk.proofs.HalfLemmas.{AllFit-pop, put_all-push}
use Rattle.media_disk.proofs.WriteLemmas.{length-put_at}
use Rattle.media_disk.proofs.tear.put_halves.Goals as goal

pub overwrite-requires : goal.overwrite-requires
overwrite-requires c =
    let popped = AllFit-pop _ _ _ (rw c.in-Some.ensures.items at c.loop-half.invariant.fit) in
    let same : c.deref.result.now ≡ c.in-Some.half.bytes.items = search rules in
    rw same popped.1

pub loop-half-preserved : goal.loop-half-preserved
loop-half-preserved c =
    let popped = AllFit-pop _ _ _ (rw c.in-Some.ensures.items at c.loop-half.invariant.fit) in
    let same : c.deref.result.now ≡ c.in-Some.half.bytes.items = search rules in
    let long = length-put_at c.loop-half.bytes.items c.in-Some.half.at c.in-Some.half.bytes.items popped.1 in
    record {
      same = rw (c.overwrite.ensures, same) (sym (put_all-push c.pop.new.self.items c.in-Some.half c.loop-half.bytes.items) ∙ (rw c.in-Some.ensures.items at c.loop-half.invariant.same));
      fit = rw (c.overwrite.ensures, same, long) popped.0;
    }
