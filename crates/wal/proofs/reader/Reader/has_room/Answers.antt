use Rattle.std.proofs.Common.{sym, ◌∙◌}
use Rattle.wal.specs.Expected.{numbers_as}
use Rattle.wal.specs.Logged.{logged_all}
use Rattle.wal.proofs.EntryLemmas.{room_told, no_room_told}
use Rattle.wal.proofs.LengthLemmas.{charge_is}
use Rattle.wal.proofs.reader.Reader.has_room.Goals as goal

pub returns-in-Ok : goal.returns-in-Ok
returns-in-Ok c = λ live number.
    room_told live (numbers_as c.args.self.expected) number c.args.self.bytes.now (logged_all c.in-Ok.writes) c.in-Ok.field-0-1.now c.charge.result c.in-Ok.ensures (c.charge.ensures ∙ sym (charge_is number c.in-Ok.writes))

pub returns-in-Err-Left : goal.returns-in-Err-Left
returns-in-Err-Left c = λ live number.
    no_room_told live (numbers_as c.args.self.expected) number c.args.self.bytes.now c.in-Err-Left.field-0-0 (rw c.in-Err-Left.field-0-is at c.in-Err-Left.ensures)
