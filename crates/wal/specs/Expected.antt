-- What is known between two entries, as contracts see it.
use Rattle.hse_rows.specs.machine.TakenRuns.{numbers_of, runs_as}
use Rattle.wal.specs.Numbering.{Numbers}
use Rattle.wal.specs.declared.expected.Expected.{Expected}

abbrev pub numbers_as : Expected → Numbers
numbers_as e = record { next = e.next; taken = numbers_of (runs_as e.taken.now); room = e.room }
