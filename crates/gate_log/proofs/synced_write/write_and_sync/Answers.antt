-- A crash in one of the two calls leaves the range torn.
use Rattle.std.proofs.Common.{length, arith}
use Rattle.media_disk.specs.Images.{MayLeave}
use Rattle.media_disk.specs.laws.Leaves.{leaves_started, leaves_goes_on}
use Rattle.gate_log.specs.Crashes.{IsTornFrom}
use Rattle.gate_log.proofs.TornLemmas.{torn_after_write, torn_after_error, torn_after_sync}
use Rattle.gate_log.proofs.synced_write.write_and_sync.Goals as goal

pub returns-in_err-write-clause-crash : goal.returns-in_err-write-clause-crash
returns-in_err-write-clause-crash g c told =
    let now = c.args.disk.now in
    leaves_goes_on g.D.Device now now c.write.new.self _ told (omega arith) (leaves_started g.D.Device now _) c.write.ensures.call
    (torn_after_error _ _ _ _ _ _ (c.write.ensures.others told) (c.in_err-write.ensures.pending_err told))

pub returns-clause-crash : goal.returns-clause-crash
returns-clause-crash g c told =
    let now = c.args.disk.now in
    let written = c.write.new.self in
    let pending = c.in_ok-write.ensures.pending told in
    let P = IsTornFrom c.args.at (length c.args.bytes.now) (MayLeave g.D.Device now) in
    let after_write = leaves_goes_on g.D.Device now now written P told (omega arith) (leaves_started g.D.Device now P) c.write.ensures.call
    (λ image. torn_after_write _ _ _ _ image _ _ (c.write.ensures.others told) pending) in
    leaves_goes_on g.D.Device now written c.sync.new.self P told c.write.ensures.call.forward after_write c.sync.ensures.call
    (torn_after_sync c.sync.result _ _ _ _ _ _ _ _ (c.write.ensures.others told) (c.sync.ensures.seen told) pending
    (c.sync.ensures.durable told) (c.sync.ensures.pending told))
