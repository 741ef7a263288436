-- The old bytes that the record keeps undo the write.
use Rattle.std.proofs.Common.{rules, ◌≡◌, ℕ, ◌+◌, ◌-◌, List, length, take, drop, sym, subst, refl, ◌∙◌, arith}
use Rattle.media_disk.specs.Content.{part, put_at}
use Rattle.media_disk.specs.declared.call.Work.TheVariants.{Write}
use Rattle.media_disk.proofs.MomentLemmas.{mem_called, recorded_counted, entered_counted}
use Rattle.media_disk.proofs.WriteLemmas.{put-torn, put_at-undone}
use Rattle.media_disk.proofs.mem_calls.MemDiskDisk.write.Goals as goal

-- the slice of the old bytes is a part of them
is_part : (at n : ℕ) (bytes slice : List ℕ) → slice ≡ bytes → take (at + n - at) (drop at slice) ≡ part bytes at n
is_part at n bytes slice same =
    let span : at + n - at ≡ n = omega arith in
    rw (same, span)

pub returns-clause-call : goal.returns-clause-call
returns-clause-call c =
    let slice : c.in-Ok.kept.items ≡ take (c.args.at + length c.args.bytes.now - c.args.at) (drop c.args.at c.deref.result.now) = search rules in
    let kept = slice ∙ is_part c.args.at (length c.args.bytes.now) c.args.self.now.bytes.items c.deref.result.now (search rules) in
    mem_called c.args.self.now _ (Write c.args.at c.in-Ok.kept) _ tt
    (entered_counted tt _ c.is_listed_write.new.self _ _ c.is_listed_write.ensures.counted c.in_ok-enter.ensures.entered)
    (rw (c.overwrite.ensures, kept) (put_at-undone c.args.self.now.bytes.items c.args.at c.args.bytes.now c.requires))

pub returns-clause-others : goal.returns-clause-others
returns-clause-others c =
    rw c.overwrite.ensures (put-torn c.args.self.now.bytes.items c.args.at (length c.args.bytes.now) c.args.bytes.now refl c.requires)

pub returns-clause-entered : goal.returns-clause-entered
returns-clause-entered c unlisted =
    let slice : c.in-Ok.kept.items ≡ take (c.args.at + length c.args.bytes.now - c.args.at) (drop c.args.at c.deref.result.now) = search rules in
    let kept = slice ∙ is_part c.args.at (length c.args.bytes.now) c.args.self.now.bytes.items c.deref.result.now (search rules) in
    record { ok = (c.in-Ok.kept, kept, recorded_counted _ c.is_listed_write.new.self _ _ c.is_listed_write.ensures.counted c.in_ok-enter.ensures.entered.ok.1); err = tt }
