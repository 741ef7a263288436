use Rattle.std.proofs.Common.{◌≡◌, ◌∙◌, ◌+◌, List, ℕ, [], ◌∷◌, refl, sym, ap, subst, arith}
use Rattle.std.proofs.lemmas.Result.{on_ok_weaker}
use Rattle.media_disk.specs.Content.{put_at}
use Rattle.media_disk.specs.laws.Leaves.{leaves_more, leaves_joined}
use Rattle.gate_log.specs.Framed.{framed}
use Rattle.gate_log.specs.Gates.{first_gate, open_gate, started_text}
use Rattle.hse_rows.specs.machine.Sizes.{device_block}
use Rattle.device_layout.specs.Layouts.{half_of}
use Rattle.manifest.specs.Text.{base_text}
use Rattle.recovery.specs.Formatting.{IsFilled, IsStopped, first_loaded, first_metadata}
use Rattle.recovery.specs.Image.{IsLoaded, log_region}
use Rattle.recovery.proofs.NewLemmas.{new_device}
use Rattle.recovery.proofs.StopLemmas.{stopped_gate, stopped_since}
use Rattle.recovery.proofs.TextLemmas.{formatted_text}
use Rattle.recovery.proofs.forming.form.Goals as goal

pub returns-in_err-tail-clause-stopped : goal.returns-in_err-tail-clause-stopped
returns-in_err-tail-clause-stopped g c = λ told blank none.
    stopped_since c.args.layout c.requires.good (c.first_bases_are_in_force.ensures.shut c.args.layout) (c.first_bases_are_in_force.ensures.started c.args.layout)
    (g.D.Device.seen c.args.disk.now) blank device_block refl g.D.Device g.met.D.Disk.only_now told c.args.disk.now c.begin.new.disk refl none
    (c.begin.ensures.crash told blank none)

pub returns-in_err-fill-clause-stopped : goal.returns-in_err-fill-clause-stopped
returns-in_err-fill-clause-stopped g c = λ told blank none.
    let begun = c.in_ok-tail.ensures.begun told blank in
    let empty = c.in_ok-tail.ensures.durable told in
    stopped_since c.args.layout c.requires.good (c.first_bases_are_in_force.ensures.shut c.args.layout) (c.first_bases_are_in_force.ensures.started c.args.layout)
    (g.D.Device.seen c.args.disk.now) blank device_block refl g.D.Device g.met.D.Disk.only_now told c.args.disk.now c.fill.new.disk refl none
    (leaves_joined g.D.Device c.args.disk.now c.begin.new.disk c.fill.new.disk (IsStopped c.args.layout) c.begin.ensures.calls.forward
    (c.begin.ensures.crash told blank none)
    (c.fill.ensures.crash told c.args.block.now c.requires.block begun empty))

pub returns-clause-formed : goal.returns-clause-formed
returns-clause-formed g c = λ told blank.
    let begun = c.in_ok-tail.ensures.begun told blank in
    let filled = c.in_ok-fill.ensures.filled told c.args.block.now begun in
    let based = subst (λ (b : List ℕ). IsFilled c.args.layout c.args.block.now b (g.D.Device.seen c.fill.new.disk)) c.requires.base filled in
    on_ok_weaker c.open.result
    (λ (opened : g.D.Device.seen c.open.new.disk ≡ put_at (g.D.Device.seen c.fill.new.disk) 0 (open_gate ∷ [])).
    subst (λ (image : List ℕ). IsLoaded image (first_loaded c.args.layout)) (sym opened)
    (new_device c.args.layout c.requires.good c.args.block.now (g.D.Device.seen c.fill.new.disk) c.requires.block based
    (c.first_bases_are_in_force.ensures.held c.args.layout)))
    (c.open.ensures.opened told)

pub returns-clause-stopped : goal.returns-clause-stopped
returns-clause-stopped g c = λ told blank none.
    let P = IsStopped c.args.layout in
    let begun = c.in_ok-tail.ensures.begun told blank in
    let empty = c.in_ok-tail.ensures.durable told in
    let filled = c.in_ok-fill.ensures.filled told c.args.block.now begun in
    let based = subst (λ (b : List ℕ). IsFilled c.args.layout c.args.block.now b (g.D.Device.seen c.fill.new.disk)) c.requires.base filled in
    let loaded = new_device c.args.layout c.requires.good c.args.block.now (g.D.Device.seen c.fill.new.disk) c.requires.block based
    (c.first_bases_are_in_force.ensures.held c.args.layout) in
    let first = leaves_joined g.D.Device c.args.disk.now c.begin.new.disk c.fill.new.disk P c.begin.ensures.calls.forward
    (c.begin.ensures.crash told blank none)
    (c.fill.ensures.crash told c.args.block.now c.requires.block begun empty) in
    stopped_since c.args.layout c.requires.good (c.first_bases_are_in_force.ensures.shut c.args.layout) (c.first_bases_are_in_force.ensures.started c.args.layout)
    (g.D.Device.seen c.args.disk.now) blank device_block refl g.D.Device g.met.D.Disk.only_now told c.args.disk.now c.open.new.disk refl none
    (leaves_joined g.D.Device c.args.disk.now c.fill.new.disk c.open.new.disk P (omega (arith, c.begin.ensures.calls.forward, c.fill.ensures.calls.forward)) first
    (leaves_more g.D.Device c.fill.new.disk c.open.new.disk _ P (c.open.ensures.crash told (c.in_ok-fill.ensures.durable told))
    (λ image torn. stopped_gate c.args.layout (g.D.Device.seen c.fill.new.disk) image based.begun.long torn loaded)))

pub returns-clause-bytes : goal.returns-clause-bytes
returns-clause-bytes g c = λ told blank.
    let frame_at = (half_of c.args.layout 1).at + first_gate in
    let written : List ℕ → List ℕ =
    λ base. put_at (put_at (put_at (put_at (g.D.Device.seen c.args.disk.now) 0 c.args.block.now) (half_of c.args.layout 1).at (started_text 1))
    frame_at (open_gate ∷ framed base)) (log_region c.args.layout).at (started_text 1) in
    let filled : g.D.Device.seen c.fill.new.disk ≡ written (base_text first_metadata) =
    c.in_ok-fill.ensures.bytes told
    ∙ ap (λ (l : List ℕ). put_at (put_at l frame_at (open_gate ∷ framed c.args.base.now)) (log_region c.args.layout).at (started_text 1))
    (c.in_ok-tail.ensures.bytes told)
    ∙ ap written c.requires.base in
    on_ok_weaker c.open.result
    (λ (opened : g.D.Device.seen c.open.new.disk ≡ put_at (g.D.Device.seen c.fill.new.disk) 0 (open_gate ∷ [])).
    formatted_text c.args.layout c.requires.good c.args.block.now c.requires.block (g.D.Device.seen c.args.disk.now) (g.D.Device.seen c.fill.new.disk)
    (g.D.Device.seen c.open.new.disk) blank filled opened)
    (c.open.ensures.opened told)
