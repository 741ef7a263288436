use Rattle.std.proofs.lemmas.Result.{on_ok_weaker}
use Rattle.byteorder.specs.Endian.{big_bytes}
use Rattle.device_layout.proofs.SuperblockLemmas.{five_put}
use Rattle.device_layout.proofs.superblock.put_sizes.Goals as goal

pub returns : goal.returns
returns c =
    let p = c.args.params in
    on_ok_weaker c.put_u16.result
    (λ is. five_put c.args.block.now.items (big_bytes 1 p.power) (big_bytes 4 p.slots) (big_bytes 8 p.manifest) (big_bytes 8 p.log) (big_bytes 2 p.stores)
    c.put_u8.new.into.items c.put_u32.new.into.items c.put_u64.new.into.items c.put_u64-2.new.into.items c.put_u16.new.into.items
    c.in_ok-put_u8.ensures.written c.in_ok-put_u32.ensures.written c.in_ok-put_u64.ensures.written c.in_ok-put_u64-2.ensures.written is)
    c.put_u16.ensures.written
