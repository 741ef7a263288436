use Rattle.back.proofs.EnterLemmas.{halves_apart, held, log_leaves, now_logged, reads_entry}
use Rattle.back.specs.Steps.{metadata_with}
use Rattle.back.proofs.back.Back.log_entry.Goals as goal

pub returns-in-Ok-clause-logged : goal.returns-in-Ok-clause-logged
returns-in-Ok-clause-logged g c = λ told loaded entry rest may is.
    let old = c.args.self.now in
    now_logged g.D.Device old.disk old.layout old.log old.manifest loaded rest entry may c.log.new.disk c.log.new.self
    c.args.batch.now is (c.log.ensures.others told)
    (c.in-Ok.ensures.logged told loaded.metadata (metadata_with loaded.metadata entry)
    (held g.D.Device old.disk old.layout old.log old.manifest loaded rest)
    (reads_entry g.D.Device old.disk old.layout old.log old.manifest loaded rest entry may c.args.batch.now is))
    c.in-Ok.ensures.answer.1 (c.in-Ok.ensures.durable told)

pub returns-in-Ok-clause-crash : goal.returns-in-Ok-clause-crash
returns-in-Ok-clause-crash g c = λ told loaded entry rest may is.
    let old = c.args.self.now in
    log_leaves g.D.Device old.disk old.layout old.log old.manifest loaded rest entry may c.log.new.disk
    c.args.batch.now is
    (c.log.ensures.crash told loaded.metadata (metadata_with loaded.metadata entry)
    (held g.D.Device old.disk old.layout old.log old.manifest loaded rest)
    (reads_entry g.D.Device old.disk old.layout old.log old.manifest loaded rest entry may c.args.batch.now is)
    (halves_apart old.manifest.layout (g.D.Device.pending old.disk) rest.still))

pub returns-in-Err-Device-clause-crash : goal.returns-in-Err-Device-clause-crash
returns-in-Err-Device-clause-crash g c = λ told loaded entry rest may is.
    let old = c.args.self.now in
    log_leaves g.D.Device old.disk old.layout old.log old.manifest loaded rest entry may c.log.new.disk
    c.args.batch.now is
    (c.log.ensures.crash told loaded.metadata (metadata_with loaded.metadata entry)
    (held g.D.Device old.disk old.layout old.log old.manifest loaded rest)
    (reads_entry g.D.Device old.disk old.layout old.log old.manifest loaded rest entry may c.args.batch.now is)
    (halves_apart old.manifest.layout (g.D.Device.pending old.disk) rest.still))
