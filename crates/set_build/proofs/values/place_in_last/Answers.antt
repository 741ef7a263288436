use Rattle.std.proofs.Common.{◌≡◌, ◌-◌, suc, length, arith}
use Rattle.set_build.specs.Builders.{HoldsValues, has_room}
use Rattle.set_build.proofs.LastLemmas.{last_of}
use Rattle.set_build.proofs.ValueLemmas.{none-goes, placed_at, no_room_by}
use Rattle.set_build.proofs.values.place_in_last.Goals as goal

pub returns-then-count-eq0 : goal.returns-then-count-eq0
returns-then-count-eq0 c = λ held holds.
    none-goes (HoldsValues c.args.slot) (has_room c.args.slot c.args.len) held c.args.blocks.now holds c.if-count-eq0.true

pub room-room-requires : goal.room-room-requires
room-room-requires c =
    let some : suc (length c.args.blocks.now - 1) ≡ length c.args.blocks.now = omega (arith, c.if-count-eq0.false) in
    let last = last_of (HoldsValues c.args.slot) c.requires.held.0 c.args.blocks.now (length c.args.blocks.now - 1) c.index-blocks-last.result c.requires.held.1 some c.index-blocks-last.is in
    (c.args.slot, last.last, last.holds.0)

pub overflow_add-len : goal.overflow_add-len
overflow_add-len c = omega (arith, c.requires.fits, c.requires.small)

pub returns-then-room-len : goal.returns-then-room-len
returns-then-room-len c = λ held holds.
    let some : suc (length c.args.blocks.now - 1) ≡ length c.args.blocks.now = omega (arith, c.if-count-eq0.false) in
    let last = last_of (HoldsValues c.args.slot) held c.args.blocks.now (length c.args.blocks.now - 1) c.index-blocks-last.result holds some c.index-blocks-last.is in
    no_room_by c.args.slot c.args.len held c.args.blocks.now (length c.args.blocks.now - 1) c.index-blocks-last.result last c.room-room.result
    (c.room-room.ensures c.args.slot last.last last.holds.0) c.if-room-len.true

pub overflow_sub-result : goal.overflow_sub-result
overflow_sub-result c =
    let some : suc (length c.args.blocks.now - 1) ≡ length c.args.blocks.now = omega (arith, c.if-count-eq0.false) in
    let last = last_of (HoldsValues c.args.slot) c.requires.held.0 c.args.blocks.now (length c.args.blocks.now - 1) c.index-blocks-last.result c.requires.held.1 some c.index-blocks-last.is in
    omega (arith, c.room-room.ensures c.args.slot last.last last.holds.0)

pub overflow_cast-result-3 : goal.overflow_cast-result-3
overflow_cast-result-3 c = omega (arith, c.requires.fits, c.requires.small)

pub returns : goal.returns
returns c = λ held holds.
    let some : suc (length c.args.blocks.now - 1) ≡ length c.args.blocks.now = omega (arith, c.if-count-eq0.false) in
    let last = last_of (HoldsValues c.args.slot) held c.args.blocks.now (length c.args.blocks.now - 1) c.index-blocks-last.result holds some c.index-blocks-last.is in
    placed_at c.args.slot c.args.len held c.args.blocks.now (length c.args.blocks.now - 1) c.index-blocks-last.result last c.room-room.result
    (c.room-room.ensures c.args.slot last.last last.holds.0) c.if-room-len.false
