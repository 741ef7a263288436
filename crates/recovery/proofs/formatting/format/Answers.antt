use Rattle.std.proofs.Common.{◌≡◌, ◌∙◌, ℕ, replicate, refl, sym, ap, subst}
use Rattle.hse_io.specs.Faults.{next_count}
use Rattle.device_layout.specs.declared.layout.Layout.{Layout}
use Rattle.recovery.specs.DeviceText.{device_text}
use Rattle.recovery.specs.Formatting.{IsStopped, first_loaded, third_call}
use Rattle.recovery.specs.Image.{IsLoaded}
use Rattle.recovery.proofs.NewLemmas.{layout_is, zeros_blank}
use Rattle.recovery.proofs.formatting.format.Goals as goal

pub returns-in_default-form-clause-stopped : goal.returns-in_default-form-clause-stopped
returns-in_default-form-clause-stopped g c = λ told later image left.
    let layout = c.in-Some.layout in
    let blank = zeros_blank layout (g.D.Device.seen c.give_size.new.disk)
    (c.in-Ok-give_size.ensures.zeros told ∙ ap (λ (n : ℕ). replicate n 0) c.size-size.ensures) in
    let clock : third_call (g.D.Device.clock c.args.disk.now) ≡ g.D.Device.clock c.give_size.new.disk =
    sym (c.in-Ok-give_size.ensures.ended ∙ ap (λ (n : ℕ). next_count (next_count n)) c.size.ensures.call.clock) in
    subst (λ (l : Layout). IsStopped l image) (sym (layout_is layout c.args.params.now c.in-Some.ensures.0 c.in-Some.ensures.1))
    (c.form.ensures.stopped told blank (c.in-Ok-give_size.ensures.durable told) image
    (subst (λ (n : ℕ). g.D.Device.could c.form.new.disk n image) clock left))

pub returns-clause-told : goal.returns-clause-told
returns-clause-told g c = λ told. sym (c.size.ensures.seen told) ∙ c.give_size.ensures.none told

pub returns-clause-formed : goal.returns-clause-formed
returns-clause-formed g c = λ told.
    let layout = c.in-Some.layout in
    let blank = zeros_blank layout (g.D.Device.seen c.give_size.new.disk)
    (c.in-Ok-give_size.ensures.zeros told ∙ ap (λ (n : ℕ). replicate n 0) c.size-size.ensures) in
    subst (λ (l : Layout). IsLoaded (g.D.Device.seen c.form.new.disk) (first_loaded l))
    (sym (layout_is layout c.args.params.now c.in-Some.ensures.0 c.in-Some.ensures.1))
    (c.in-Ok-form.ensures.formed told blank)

pub returns-clause-stored : goal.returns-clause-stored
returns-clause-stored g c = λ told.
    let layout = c.in-Some.layout in
    let blank = zeros_blank layout (g.D.Device.seen c.give_size.new.disk)
    (c.in-Ok-give_size.ensures.zeros told ∙ ap (λ (n : ℕ). replicate n 0) c.size-size.ensures) in
    record { loaded = first_loaded layout; is = c.in-Ok-form.ensures.formed told blank; state_is = refl }

pub returns-clause-stopped : goal.returns-clause-stopped
returns-clause-stopped g c = λ told image left.
    let layout = c.in-Some.layout in
    let blank = zeros_blank layout (g.D.Device.seen c.give_size.new.disk)
    (c.in-Ok-give_size.ensures.zeros told ∙ ap (λ (n : ℕ). replicate n 0) c.size-size.ensures) in
    let clock : third_call (g.D.Device.clock c.args.disk.now) ≡ g.D.Device.clock c.give_size.new.disk =
    sym (c.in-Ok-give_size.ensures.ended ∙ ap (λ (n : ℕ). next_count (next_count n)) c.size.ensures.call.clock) in
    subst (λ (l : Layout). IsStopped l image) (sym (layout_is layout c.args.params.now c.in-Some.ensures.0 c.in-Some.ensures.1))
    (c.form.ensures.stopped told blank (c.in-Ok-give_size.ensures.durable told) image
    (subst (λ (n : ℕ). g.D.Device.could c.form.new.disk n image) clock left))

pub returns-clause-bytes : goal.returns-clause-bytes
returns-clause-bytes g c = λ told.
    let layout = c.in-Some.layout in
    subst (λ (l : Layout). g.D.Device.seen c.form.new.disk ≡ device_text l)
    (sym (layout_is layout c.args.params.now c.in-Some.ensures.0 c.in-Some.ensures.1))
    (c.in-Ok-form.ensures.bytes told (c.in-Ok-give_size.ensures.zeros told ∙ ap (λ (n : ℕ). replicate n 0) c.size-size.ensures))
