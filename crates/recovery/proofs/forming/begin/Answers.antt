use Rattle.std.proofs.Common.{◌≡◌, ◌+◌, ◌≤◌, inl, arith, ◌∷◌, [], List, ℕ, length, ap, sym, subst, ◌∙◌}
use Rattle.std.proofs.lemmas.Result.{on_ok_weaker}
use Rattle.media_disk.specs.Content.{put_at}
use Rattle.media_disk.specs.Images.{MayLeave}
use Rattle.media_disk.specs.laws.Leaves.{leaves_started, leaves_goes_on, leaves_joined, leaves_more}
use Rattle.gate_log.specs.Gates.{IsWritten, started_text}
use Rattle.gate_log.specs.Places.{IsApart, region_of}
use Rattle.device_layout.specs.Layouts.{half_of}
use Rattle.recovery.specs.Formatting.{IsStopped}
use Rattle.recovery.proofs.FormatLemmas.{begun}
use Rattle.recovery.proofs.StopLemmas.{after_failure, after_write, stopped_blank, stopped_start}
use Rattle.recovery.proofs.forming.begin.Goals as goal

pub returns-in_err-write-clause-crash : goal.returns-in_err-write-clause-crash
returns-in_err-write-clause-crash g c = λ told blank none.
    let now = c.args.disk.now in
    let laws = c.first_bases_are_in_force.ensures in
    leaves_goes_on g.D.Device now now c.write.new.self (IsStopped c.args.layout) told (omega arith) (leaves_started g.D.Device now (IsStopped c.args.layout)) c.write.ensures.call
    (λ (image : List ℕ) (left : MayLeave g.D.Device c.write.new.self image).
    stopped_blank c.args.layout c.requires.good (laws.shut c.args.layout) (laws.started c.args.layout) (g.D.Device.seen now) blank
    (length c.args.block.now) c.requires.block image
    (after_failure (length c.args.block.now) (g.D.Device.seen now) (g.D.Device.seen c.write.new.self) image (g.D.Device.pending now) (g.D.Device.pending c.write.new.self)
    none (c.write.ensures.others told) (c.in_err-write.ensures.pending_err told) left))

pub returns-clause-begun : goal.returns-clause-begun
returns-clause-begun g c = λ told blank.
    let torn = rw c.half.ensures at (c.start.ensures.others told) in
    let started = rw c.half.ensures at (c.start.ensures.started told) in
    on_ok_weaker c.start.result
    (λ (written : IsWritten (region_of (half_of c.args.layout 1) (g.D.Device.seen c.start.new.disk)) 1 []).
    begun c.args.layout c.args.block.now (g.D.Device.seen c.args.disk.now) (g.D.Device.seen c.write.new.self) (g.D.Device.seen c.start.new.disk)
    c.requires.block blank (c.in_ok-write.ensures.written told) (c.write.ensures.others told) torn written.gated)
    started

pub returns-clause-crash : goal.returns-clause-crash
returns-clause-crash g c = λ told blank none.
    let now = c.args.disk.now in
    let written = c.write.new.self in
    let laws = c.first_bases_are_in_force.ensures in
    let P = IsStopped c.args.layout in
    let pending = c.in_ok-write.ensures.pending told in
    let first = leaves_goes_on g.D.Device now now written P told (omega arith) (leaves_started g.D.Device now P) c.write.ensures.call
    (λ (image : List ℕ) (left : MayLeave g.D.Device written image).
    stopped_blank c.args.layout c.requires.good (laws.shut c.args.layout) (laws.started c.args.layout) (g.D.Device.seen now) blank
    (length c.args.block.now) c.requires.block image
    (after_write (length c.args.block.now) (g.D.Device.seen now) (g.D.Device.seen written) image (g.D.Device.pending now) (g.D.Device.pending written)
    none (c.write.ensures.others told) pending left)) in
    let crash = rw c.half.ensures at (c.start.ensures.crash told) in
    let low : 0 + length c.args.block.now ≤ (half_of c.args.layout 1).at = omega (arith, c.requires.block) in
    let apart : IsApart (half_of c.args.layout 1) (g.D.Device.pending written) =
    subst (IsApart (half_of c.args.layout 1)) (sym (pending ∙ ap (λ (r : List (ℕ × ℕ)). (0, length c.args.block.now) ∷ r) none)) (inl low, tt) in
    leaves_joined g.D.Device now written c.start.new.disk P c.write.ensures.call.forward first
    (leaves_more g.D.Device written c.start.new.disk _ P (crash apart)
    (λ image left. stopped_start c.args.layout c.requires.good (laws.shut c.args.layout) (laws.started c.args.layout) (g.D.Device.seen now) blank
    (length c.args.block.now) c.requires.block (g.D.Device.seen written) image (g.D.Device.pending now) (g.D.Device.pending written)
    none (c.write.ensures.others told) pending left))

pub returns-clause-bytes : goal.returns-clause-bytes
returns-clause-bytes g c = λ told.
    let place = (half_of c.args.layout 1).at in
    on_ok_weaker c.start.result
    (λ (is : g.D.Device.seen c.start.new.disk ≡ put_at (g.D.Device.seen c.write.new.self) place (started_text 1)).
    is ∙ ap (λ (l : List ℕ). put_at l place (started_text 1)) (c.in_ok-write.ensures.written told))
    (rw c.half.ensures at (c.start.ensures.bytes told))
