use Rattle.std.proofs.Common.{◌≡◌, ◌-◌, None}
use Rattle.hse_fields.specs.LogReading.{more_changes_of}
use Rattle.wal.specs.Live.{prefix_fits}
use Rattle.wal.specs.Logged.{logged_all}
use Rattle.wal.proofs.ChangesLoop.{with_beginning, end_of}
use Rattle.wal.proofs.reader.Reader.writes.Given as goal

abbrev pub invariant-loop : goal.invariant-loop
invariant-loop l =
    with_beginning (logged_all l.writes.items) (more_changes_of (prefix_fits l.self.live.now) l.self.most (end_of l.writes.items) (l.count - l.counter) l.rest)
    ≡ more_changes_of (prefix_fits l.self.live.now) l.self.most None l.count l.self.bytes.now
