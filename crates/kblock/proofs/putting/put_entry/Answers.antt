use Rattle.std.proofs.Common.{◌++◌}
use Rattle.byteorder.specs.Endian.{big_bytes}
use Rattle.hse_fields.specs.LogText.{sized}
use Rattle.kblock.proofs.PuttingLemmas.{two_pieces}
use Rattle.kblock.proofs.putting.put_entry.Goals as goal

pub returns-in-Some-clause-items : goal.returns-in-Some-clause-items
returns-in-Some-clause-items c =
    let place = c.in-Some.place in
    rw c.in-Some.is
    (two_pieces c.args.into.now.items (big_bytes 1 1 ++ (big_bytes 8 c.args.entry.now.number ++ sized 2 c.args.entry.now.key.now))
    (big_bytes 4 place.block ++ (big_bytes 4 place.offset ++ big_bytes 4 place.len))
    c.put_key.new.into.items c.put_place.new.into.items c.put_key.ensures.items c.put_place.ensures.items)
