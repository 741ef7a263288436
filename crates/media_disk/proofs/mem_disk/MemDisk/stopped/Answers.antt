-- What a fill leaves is an image, and a byte's ranges hold it.
use Rattle.std.proofs.Common.{◌≡◌, ◌∙◌}
use Rattle.media_disk.specs.Filled.{filled}
use Rattle.media_disk.specs.MemDisk.{mem_bytes}
use Rattle.media_disk.proofs.ImageLemmas.{filled-image, filled-held}
use Rattle.media_disk.proofs.mem_disk.MemDisk.stopped.Goals as goal

pub returns-clause-image : goal.returns-clause-image
returns-clause-image c =
    let self = c.args.self in
    let same : mem_bytes c.of.result ≡ filled c.args.fill self.history.calls.items self.bytes.items =
    c.of.ensures.bytes_are ∙ c.in_ok-fill_pending.ensures.ok in
    rw same (filled-image c.args.fill self.history.calls.items self.bytes.items self.within)

pub returns-clause-held : goal.returns-clause-held
returns-clause-held c =
    let self = c.args.self in
    let same : mem_bytes c.of.result ≡ filled c.args.fill self.history.calls.items self.bytes.items =
    c.of.ensures.bytes_are ∙ c.in_ok-fill_pending.ensures.ok in
    rw same (filled-held c.args.fill self.history.calls.items self.bytes.items self.within)
