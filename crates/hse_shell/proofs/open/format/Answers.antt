use Rattle.std.proofs.Common.{◌≡◌, ℕ, length, ap, subst, ◌∙◌, arith, length-drop}
use Rattle.hse_shell.specs.Base.{Base}
use Rattle.hse_shell.specs.Stored.{device_size}
use Rattle.hse_shell.proofs.OpenLemmas.{only_seen, serves_opened, started}
use Rattle.hse_shell.proofs.open.format.Goals as goal

pub invariant_of-engine : goal.invariant_of-engine
invariant_of-engine g c =
    let engine = c.args.engine.now in
    let charges = ap (λ (b : Base). b.charges) c.requires.base in
    let waiting = ap length c.requires.idle.waiting in
    let four = length-drop 4 engine.waiting.items in
    record {
      within = engine.within;
      numbered = engine.numbered;
      headed = engine.headed;
      placed = omega (arith, charges, waiting, four, engine.headed, c.requires.idle.count, c.in_ok-tail.ensures.tail);
      spare = engine.spare;
    }

pub returns-clause-serves : goal.returns-clause-serves
returns-clause-serves g c =
    let disk = c.start.new.disk in
    let sized : g.D.Device.extent disk ≡ device_size = c.start.ensures.extent ∙ c.in_ok-give_size.ensures.sized in
    serves_opened _ _ c.clock.result c.note.ensures.kept g.D.Device disk
    (record { count = c.requires.idle.count; waiting = c.requires.idle.waiting }) c.requires.unmarked c.note.ensures.marks sized
    (omega (arith, c.clock.ensures))
    (λ told. started (g.D.Device.seen disk) (g.D.Device.pending disk) c.in_ok-tail.tail.place _ (g.met.D.Disk.as_long disk told ∙ sized)
    (c.in_ok-tail.ensures.started told).gated c.requires.base c.in_ok-tail.ensures.tail (c.in_ok-tail.ensures.durable told))
    (λ told image might. only_seen (g.D.Device.seen disk) image (g.D.Device.pending disk) (c.in_ok-tail.ensures.durable told)
    (g.met.D.Disk.only_now disk image told (subst (λ (clock : ℕ). g.D.Device.could disk clock image) c.clock.ensures might)))
