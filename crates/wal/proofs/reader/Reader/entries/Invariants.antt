use Rattle.std.proofs.Common.{◌≡◌, ◌-◌, List}
use Rattle.hse_fields.specs.LogText.{Entry}
use Rattle.hse_fields.specs.LogReading.{entries_of as entries_read}
use Rattle.wal.specs.Expected.{numbers_as}
use Rattle.wal.specs.Numbering.{numbering}
use Rattle.wal.specs.Taking.{Takes}
use Rattle.wal.proofs.EntriesLoop.{with_beginning}
use Rattle.wal.proofs.reader.Reader.entries.Given as goal

abbrev pub invariant-loop : goal.invariant-loop
invariant-loop g l =
    (entries : List Entry)
    × (with_beginning entries (entries_read (numbering l.self.live.now) l.self.most (numbers_as l.expected) (l.count - l.counter) l.rest)
    ≡ entries_read (numbering l.self.live.now) l.self.most (numbers_as l.self.expected) l.count l.self.bytes.now)
    × Takes (g.S.TakeCommits.took l.fn.commits) (g.S.TakeCommits.took l.commits) entries
