use Rattle.back.proofs.EnterLemmas.{halves_apart, held, roll_leaves, now_rolled, reads_base}
use Rattle.back.specs.Steps.{metadata_with}
use Rattle.back.proofs.back.Back.roll_to.Goals as goal

pub returns-in-Ok-clause-rolled : goal.returns-in-Ok-clause-rolled
returns-in-Ok-clause-rolled g c = λ told loaded entry rest may is.
    let old = c.args.self.now in
    now_rolled g.D.Device old.disk old.layout old.log old.manifest loaded rest entry may c.roll.new.disk c.roll.new.self
    c.args.base.now is (c.roll.ensures.others told)
    (c.in-Ok.ensures.rolled told loaded.metadata (metadata_with loaded.metadata entry)
    (held g.D.Device old.disk old.layout old.log old.manifest loaded rest)
    (reads_base g.D.Device old.disk old.layout old.log old.manifest loaded rest entry may c.args.base.now is))
    c.in-Ok.ensures.answer.1 (c.in-Ok.ensures.durable told)

pub returns-in-Ok-clause-crash : goal.returns-in-Ok-clause-crash
returns-in-Ok-clause-crash g c = λ told loaded entry rest may is.
    let old = c.args.self.now in
    roll_leaves g.D.Device old.disk old.layout old.log old.manifest loaded rest entry may c.roll.new.disk
    c.args.base.now is
    (c.roll.ensures.crash told loaded.metadata (metadata_with loaded.metadata entry)
    (held g.D.Device old.disk old.layout old.log old.manifest loaded rest)
    (reads_base g.D.Device old.disk old.layout old.log old.manifest loaded rest entry may c.args.base.now is)
    (halves_apart old.manifest.layout (g.D.Device.pending old.disk) rest.still))

pub returns-in-Err-Device-clause-crash : goal.returns-in-Err-Device-clause-crash
returns-in-Err-Device-clause-crash g c = λ told loaded entry rest may is.
    let old = c.args.self.now in
    roll_leaves g.D.Device old.disk old.layout old.log old.manifest loaded rest entry may c.roll.new.disk
    c.args.base.now is
    (c.roll.ensures.crash told loaded.metadata (metadata_with loaded.metadata entry)
    (held g.D.Device old.disk old.layout old.log old.manifest loaded rest)
    (reads_base g.D.Device old.disk old.layout old.log old.manifest loaded rest entry may c.args.base.now is)
    (halves_apart old.manifest.layout (g.D.Device.pending old.disk) rest.still))
