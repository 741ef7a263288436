use Rattle.std.proofs.Common.{◌≡◌, ℕ, false, ◌-◌, suc, [], ◌∷◌, List, length, refl, arith}
use Rattle.hse_fields.specs.BlockText.{KeyEntry}
use Rattle.kblock.specs.declared.building.KeyBlockBuilder.{KeyBlockBuilder}
use Rattle.kblock.specs.Entries.{entry_of}
use Rattle.set_build.specs.Builders.{HoldsKeys, HoldKeys, OpenBlock, goes_in_last, has_room_for_key}
use Rattle.set_build.proofs.LastLemmas.{last_of}
use Rattle.set_build.proofs.KeyLemmas.{pushed}
use Rattle.set_build.proofs.keys.push_in_last.Goals as goal

none : (slot : ℕ) (e : KeyEntry) (held : List OpenBlock) (bs : List KeyBlockBuilder) → HoldKeys slot held bs → length bs ≡ 0
    → goes_in_last (has_room_for_key slot e) held ≡ false
none slot e [] bs holds empty = refl
none slot e (h ∷ hs) [] holds empty = absurd holds
none slot e (h ∷ hs) (b ∷ bs) holds empty = absurd (omega (arith, empty))

pub returns-then-count-eq0-clause-added : goal.returns-then-count-eq0-clause-added
returns-then-count-eq0-clause-added c = λ held holds.
    none c.args.slot (entry_of c.args.entry.now) held c.args.blocks.now.items holds (omega (arith, c.args.blocks.now.ok.0, c.if-count-eq0.true, c.len-count.ensures))

pub push-requires-clause-held : goal.push-requires-clause-held
push-requires-clause-held c =
    let some : suc (c.len-count.result - 1) ≡ length c.args.blocks.now.items =
    omega (arith, c.args.blocks.now.ok.0, c.if-count-eq0.false, c.len-count.ensures) in
    let last = last_of (HoldsKeys c.args.slot) c.requires.held.0 c.args.blocks.now.items (c.len-count.result - 1) c.index_mut.result.now c.requires.held.1 some c.index_mut.ensures.value in
    (c.args.slot, last.last.full, last.last.page, last.holds.0)

pub returns-clause-added : goal.returns-clause-added
returns-clause-added c = λ held holds.
    let some : suc (c.len-count.result - 1) ≡ length c.args.blocks.now.items =
    omega (arith, c.args.blocks.now.ok.0, c.if-count-eq0.false, c.len-count.ensures) in
    let last = last_of (HoldsKeys c.args.slot) held c.args.blocks.now.items (c.len-count.result - 1) c.index_mut.result.now holds some c.index_mut.ensures.value in
    rw c.is_ok.ensures.value (pushed c.args.slot held c.args.blocks.now.items (c.len-count.result - 1) (entry_of c.args.entry.now) c.index_mut.result.now c.push.new.self c.push.result last
    (c.push.ensures.added c.args.slot last.last.full last.last.page last.holds.0)
    (c.push.ensures.full c.args.slot last.last.full last.last.page last.holds.0))
