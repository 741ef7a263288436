use Rattle.std.proofs.Common.{refl}
use Rattle.recovery.specs.declared.fault.OpenFault.TheVariants.{NoMemory}
use Rattle.kvdb.proofs.NewLemmas.{opens_fault, opens_refused, opens_started}
use Rattle.kvdb.proofs.OpeningLemmas.{left_started}
use Rattle.kvdb.proofs.engine.Kvdb.start.Goals as goal

pub returns-in-Err-recover-clause-opens : goal.returns-in-Err-recover-clause-opens
returns-in-Err-recover-clause-opens g c told =
    let law = c.images_have_one_loading.ensures in
    opens_refused g.D.Device law.one law.not_refused law.not_other c.args.disk c.prepare.new.disk c.recover.new.disk
    (g.D.Device.seen c.args.disk) c.in-Err-recover.fault told refl (c.in-Ok.ensures.prepared told) (c.in-Err-recover.ensures.recovered told)

pub returns-in-Err-opened-clause-opens : goal.returns-in-Err-opened-clause-opens
returns-in-Err-opened-clause-opens g c told =
    let law = c.images_have_one_loading.ensures in
    opens_fault g.D.Device law.one law.not_refused law.not_other c.args.disk c.prepare.new.disk c.in-Err-opened.disk
    (g.D.Device.seen c.args.disk) NoMemory tt

pub returns-in-Ok-opened-clause-opens : goal.returns-in-Ok-opened-clause-opens
returns-in-Ok-opened-clause-opens g c told =
    let law = c.images_have_one_loading.ensures in
    let found = c.in-Ok-recover.ensures.recovered told in
    opens_started g.D.Device law.one law.not_refused law.not_other c.args.disk c.prepare.new.disk c.recover.new.disk
    (g.D.Device.seen c.args.disk) c.in-Ok-opened.db found.0 told refl (c.in-Ok.ensures.prepared told) found.1
    (c.in-Ok-opened.ensures.serves (g.D.Device.seen c.prepare.new.disk) found.0 found.1 found.2
    (λ told_so. c.recover.ensures.keeps.seen told_so) (λ told_so. c.in-Ok-recover.ensures.barrier.safe told_so))

pub returns-in-Ok-opened-clause-device : goal.returns-in-Ok-opened-clause-device
returns-in-Ok-opened-clause-device g c =
    left_started g.D.Device c.args.disk c.prepare.new.disk c.recover.new.disk c.in-Ok-opened.db c.in-Ok-recover.recovered.moment
    (λ told. c.in-Ok.ensures.prepared told) (λ told some. c.in-Ok.ensures.asked told some) c.in-Ok-opened.ensures.home c.prepare.ensures.calls c.recover.ensures.calls
    c.in-Ok.ensures.reports c.in-Ok-recover.ensures.reports c.recover.ensures.keeps c.in-Ok-opened.ensures.moment
    c.in-Ok-recover.ensures.barrier
