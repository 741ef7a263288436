use Rattle.std.proofs.Common.{◌≡◌, ◌%◌, arith, length}
use Rattle.byteorder.specs.Endian.{big_bytes}
use Rattle.kblock.proofs.PuttingLemmas.{four_pieces}
use Rattle.kblock.proofs.putting.put_key.Goals as goal

pub returns-clause-items : goal.returns-clause-items
returns-clause-items c =
    let byte : c.args.kind % 256 ≡ c.args.kind = omega (arith, c.ranges.kind.fits) in
    four_pieces c.args.into.now.items (big_bytes 1 c.args.kind) (big_bytes 8 c.args.number) (big_bytes 2 (length c.args.key.now)) c.args.key.now
    c.put.new.into.items c.put-2.new.into.items c.put-3.new.into.items c.put-4.new.into.items
    (rw byte c.put.ensures.items) (rw c.to_be_bytes.ensures at c.put-2.ensures.items) (rw c.to_be_bytes-2.ensures at c.put-3.ensures.items) c.put-4.ensures.items
