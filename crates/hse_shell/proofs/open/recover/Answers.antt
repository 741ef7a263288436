use Rattle.std.proofs.Common.{◌≡◌, ◌≤◌, List, ℕ, Some, Err, sym, ap, subst, ◌∙◌, arith}
use Rattle.std.proofs.lemmas.Result.{err_from_is_err_and}
use Rattle.gate_log.specs.Gates.{IsClosed}
use Rattle.gate_log.specs.Places.{region_of}
use Rattle.gate_log.specs.Reading.{IsFront}
use Rattle.hse_shell.specs.Replayed.{IsOpening}
use Rattle.hse_shell.specs.Stands.{base_in}
use Rattle.hse_shell.specs.Stored.{device_size, log_region, Stores, IsRefusedAt, of_head}
use Rattle.hse_shell.specs.declared.open.OpenFault.{OpenFault}
use Rattle.hse_shell.proofs.OpenLemmas.{only_seen, stays_safe, base_noted, handed_on, serves_opened, replayed_safe}
use Rattle.hse_shell.proofs.open.recover.Goals as goal

pub returns-in_err-front-clause-refused : goal.returns-in_err-front-clause-refused
returns-in_err-front-clause-refused g c place is told =
    let fault = handed_on _ place is (err_from_is_err_and c.from_residual-in_err-front.result c.from_residual-in_err-front.ensures.1) in
    let shut = c.in_err-front.ensures.refused place (ap (λ (f : OpenFault). Err f) fault) in
    let as_long = g.met.D.Disk.as_long c.args.disk.now told ∙ c.requires.sized in
    of_head as_long (subst (λ (image : List ℕ). IsClosed (region_of log_region image)) (c.sync.ensures.seen told) (shut.1 told)) shut.0

pub returns-in_err-front-clause-stays : goal.returns-in_err-front-clause-stays
returns-in_err-front-clause-stays g c told =
    stays_safe g.D.Device c.args.disk.now c.read_log.new.disk (c.in_err-front.ensures.reads.seen told ∙ c.sync.ensures.seen told)
    (c.in_err-front.ensures.reads.pending told ∙ c.in_ok-sync.ensures.durable told)

pub returns-in_err-rows-clause-refused : goal.returns-in_err-rows-clause-refused
returns-in_err-rows-clause-refused g c place is told =
    let fault = handed_on _ place is (err_from_is_err_and c.from_residual-in_err-rows.result c.from_residual-in_err-rows.ensures.1) in
    let image = g.D.Device.seen c.sync.new.self in
    let as_long = g.met.D.Disk.as_long c.sync.new.self told ∙ c.sync.ensures.extent ∙ c.requires.sized in
    let opening = c.in_err-rows.ensures.opening image as_long (c.in_ok-front.ensures.found told) in
    subst (λ (seen : List ℕ). IsRefusedAt seen place) (c.sync.ensures.seen told)
    (subst (λ (f : OpenFault). IsOpening image (Err f)) fault opening)

pub returns-in_err-rows-clause-stays : goal.returns-in_err-rows-clause-stays
returns-in_err-rows-clause-stays g c told =
    stays_safe g.D.Device c.args.disk.now c.read_log.new.disk (c.in_ok-front.ensures.reads.seen told ∙ c.sync.ensures.seen told)
    (c.in_ok-front.ensures.reads.pending told ∙ c.in_ok-sync.ensures.durable told)

pub returns-clause-serves : goal.returns-clause-serves
returns-clause-serves g c =
    let disk = c.read_log.new.disk in
    let sized : g.D.Device.extent disk ≡ device_size = c.read_log.ensures.reads.extent ∙ c.sync.ensures.extent ∙ c.requires.sized in
    let since : c.clock-moment.result ≤ g.D.Device.clock c.sync.new.self = omega (arith, c.clock-moment.ensures) in
    serves_opened _ _ c.clock-moment.result c.note.ensures.kept g.D.Device disk
    (record { count = c.requires.idle.count; waiting = c.requires.idle.waiting }) c.requires.unmarked c.note.ensures.marks sized
    (omega (arith, since, c.read_log.ensures.calls.forward))
    (λ told.
    let same = sym (c.in_ok-front.ensures.reads.seen told) in
    let found = subst (λ (image : List ℕ). IsFront (region_of log_region image) (Some c.in_ok-front.front)) same (c.in_ok-front.ensures.found told) in
    let is = c.in_ok-rows.ensures.opening (g.D.Device.seen disk) (g.met.D.Disk.as_long disk told ∙ sized) found in
    replayed_safe (g.D.Device.seen disk) (g.D.Device.pending disk) c.in_ok-rows.field-0 is
    (c.in_ok-front.ensures.reads.pending told ∙ c.in_ok-sync.ensures.durable told))
    (λ told image might.
    let before = c.read_log.ensures.reads.images told c.clock-moment.result image since might in
    let left = g.met.D.Disk.only_now c.sync.new.self image told (subst (λ (clock : ℕ). g.D.Device.could c.sync.new.self clock image) c.clock-moment.ensures before) in
    only_seen (g.D.Device.seen c.sync.new.self) image (g.D.Device.pending c.sync.new.self) (c.in_ok-sync.ensures.durable told) left
    ∙ sym (c.in_ok-front.ensures.reads.seen told))

pub returns-clause-stays : goal.returns-clause-stays
returns-clause-stays g c told =
    stays_safe g.D.Device c.args.disk.now c.read_log.new.disk (c.in_ok-front.ensures.reads.seen told ∙ c.sync.ensures.seen told)
    (c.in_ok-front.ensures.reads.pending told ∙ c.in_ok-sync.ensures.durable told)

pub returns-clause-stores : goal.returns-clause-stores
returns-clause-stores g c told =
    let seen = g.D.Device.seen c.sync.new.self in
    let as_long = g.met.D.Disk.as_long c.sync.new.self told ∙ c.sync.ensures.extent ∙ c.requires.sized in
    let is = c.in_ok-rows.ensures.opening seen as_long (c.in_ok-front.ensures.found told) in
    subst (λ (image : List ℕ). Stores image (base_in c.note.new.self)) (c.sync.ensures.seen told)
    (record {
      entries = is.stores.entries;
      loads = is.stores.loads;
      is = is.stores.is ∙ sym (base_noted _ _ c.clock-moment.result c.note.ensures.kept);
    })
