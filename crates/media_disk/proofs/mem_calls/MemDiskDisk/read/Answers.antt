-- A call of a disk in memory is a call of a device.
use Rattle.std.proofs.Common.{refl}
use Rattle.media_disk.specs.declared.call.Work.TheVariants.{Read}
use Rattle.media_disk.proofs.MomentLemmas.{mem_failed}
use Rattle.media_disk.proofs.mem_calls.MemDiskDisk.read.Goals as goal

pub returns-in_err-enter-clause-call : goal.returns-in_err-enter-clause-call
returns-in_err-enter-clause-call c =
    mem_failed c.args.self.now _ Read c.is_listed-listed.result c.enter.result _
    (rw c.in_err-enter.was refl) c.from_residual.ensures.0 c.enter.ensures.entered refl refl
