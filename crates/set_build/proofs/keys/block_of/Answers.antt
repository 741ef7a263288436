use Rattle.std.proofs.Common.{[]}
use Rattle.kblock.specs.Entries.{entry_of}
use Rattle.set_build.proofs.KeyLemmas.{first_goes, key_short}
use Rattle.set_build.proofs.keys.block_of.Goals as goal

pub unwrap-requires : goal.unwrap-requires
unwrap-requires c =
    first_goes c.args.slot (entry_of c.args.entry.now) c.push.result (key_short (entry_of c.args.entry.now) c.requires.short)
    (c.push.ensures.full c.args.slot [] [] c.in_ok-block.ensures)

pub returns : goal.returns
returns c =
    let goes = key_short (entry_of c.args.entry.now) c.requires.short in
    let added = rw c.unwrap.ensures at c.push.ensures.added c.args.slot [] [] c.in_ok-block.ensures in
    rw goes at added
