use Rattle.byteorder.specs.Endian.{big_bytes}
use Rattle.kblock.proofs.PuttingLemmas.{three_pieces}
use Rattle.kblock.proofs.putting.put_place.Goals as goal

pub returns-clause-items : goal.returns-clause-items
returns-clause-items c =
    three_pieces c.args.into.now.items (big_bytes 4 c.args.place.block) (big_bytes 4 c.args.place.offset) (big_bytes 4 c.args.place.len)
    c.put.new.into.items c.put-2.new.into.items c.put-3.new.into.items
    (rw c.to_be_bytes.ensures at c.put.ensures.items) (rw c.to_be_bytes-2.ensures at c.put-2.ensures.items) (rw c.to_be_bytes-3.ensures at c.put-3.ensures.items)
