use Rattle.std.proofs.Common.{◌≡◌, ◌++◌, ◌∷◌, [], arith}
use Rattle.kblock.specs.Entries.{entry_of}
use Rattle.set_build.specs.Builders.{HoldsKeys, block_with, has_room_for_key, new_block, with_key}
use Rattle.set_build.proofs.LastLemmas.{last-new, pairs-more}
use Rattle.set_build.proofs.keys.push_key.Goals as goal

pub returns-clause-added : goal.returns-clause-added
returns-clause-added c = λ held holds.
    let e = entry_of c.args.entry.now in
    let new : with_key c.args.slot held e ≡ held ++ new_block e ∷ [] =
    last-new (has_room_for_key c.args.slot e) (block_with e) (new_block e) held (c.if-push_in_last.ensures.added held holds) in
    rw (new, c.in_ok-push.ensures.items, c.if-push_in_last.ensures.unchanged) (pairs-more (HoldsKeys c.args.slot) held c.args.blocks.now.items (new_block e) c.in_ok-block.block holds (c.in_ok-block.ensures, omega arith))
