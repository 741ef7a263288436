use Rattle.std.proofs.Common.{◌≡◌, ◌+◌, arith}
use Rattle.hse_fields.specs.laws.Within.{payload_within}
use Rattle.hse_fields.specs.laws.Follow.{payload_follows}
use Rattle.wal.specs.Charges.{charges}
use Rattle.wal.specs.Expected.{numbers_as}
use Rattle.wal.specs.Numbering.{numbering}
use Rattle.wal.specs.laws.Numbering.{all_charges}
use Rattle.wal.proofs.EntriesLoop.{payload_sized}
use Rattle.wal.proofs.reader.Reader.batch.Goals as goal

pub overflow_sub-result : goal.overflow_sub-result
overflow_sub-result g c =
    let low = payload_within (numbering c.args.self.live.now) c.args.self.most (numbers_as c.args.self.expected) c.args.self.bytes.now c.in-Err-Left.left (rw c.in-Err-Left.field-0-is at c.in-Err-Left.ensures) in
    omega (arith, low, c.requires)

pub returns-in-Ok-clause-sized : goal.returns-in-Ok-clause-sized
returns-in-Ok-clause-sized g c =
    let live = c.args.self.live.now in
    let state = numbers_as c.args.self.expected in
    let last = numbers_as c.in-Ok.after in
    let read = c.in-Ok.ensures in
    let one = payload_sized live c.args.self.most state last c.args.self.bytes.now read.0 c.are_bytes.ensures.bytes read.1 in
    let all : charges read.0 + c.in-Ok.after.room ≡ c.args.self.expected.room =
    all_charges live state last read.0 (payload_follows (numbering live) c.args.self.most state c.args.self.bytes.now (read.0, last) read.1) in
    omega (arith, one, all)
