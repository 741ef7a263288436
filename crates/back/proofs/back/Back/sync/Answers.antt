use Rattle.back.proofs.SyncLemmas.{has_batches, none_apart, synced, sync_leaves}
use Rattle.back.proofs.back.Back.sync.Goals as goal

pub returns-in-Ok-clause-synced : goal.returns-in-Ok-clause-synced
returns-in-Ok-clause-synced g c = λ told loaded commits rest may is.
    let old = c.args.self.now in
    synced g.D.Device old.disk old.layout old.log old.manifest loaded rest c.write_batch.new.disk c.write_batch.new.self
    (c.write_batch.ensures.others told) (c.in-Ok.ensures.durable told) c.args.batch.now commits may is
    (c.in-Ok.ensures.written told rest.says.log.payloads (has_batches g.D.Device old.disk old.layout old.log old.manifest loaded rest))
    c.in-Ok.ensures.answer.1

pub returns-in-Ok-clause-crash : goal.returns-in-Ok-clause-crash
returns-in-Ok-clause-crash g c = λ told loaded commits rest may is.
    let old = c.args.self.now in
    sync_leaves g.D.Device old.disk old.layout old.log old.manifest loaded rest c.write_batch.new.disk c.args.batch.now commits may is
    (c.write_batch.ensures.crash told rest.says.log.payloads (has_batches g.D.Device old.disk old.layout old.log old.manifest loaded rest)
    (none_apart old.log.region (g.D.Device.pending old.disk) rest.still))

pub returns-in-Err-Device-clause-crash : goal.returns-in-Err-Device-clause-crash
returns-in-Err-Device-clause-crash g c = λ told loaded commits rest may is.
    let old = c.args.self.now in
    sync_leaves g.D.Device old.disk old.layout old.log old.manifest loaded rest c.write_batch.new.disk c.args.batch.now commits may is
    (c.write_batch.ensures.crash told rest.says.log.payloads (has_batches g.D.Device old.disk old.layout old.log old.manifest loaded rest)
    (none_apart old.log.region (g.D.Device.pending old.disk) rest.still))
