-- A key in the last block, and in a new one.
use Rattle.std.proofs.Common.{◌≡◌, ℕ, suc, ◌+◌, ◌*◌, ◌-◌, ◌<◌, ◌≤◌, ◌||◌, nat_le, Bool, true, false, List, [], ◌∷◌, ◌++◌, length, set, Result, Ok, Err, Option, Some, None, OnOk, IfErr, MatchBool, refl, sym, ap, subst, ◌∙◌, arith, length-append, if◌then◌else◌}
use Rattle.std.specs.Result.{IsOk, is_ok}
use Rattle.std.proofs.lemmas.Bool.{le-leb, lt-leb}
use Rattle.hse_fields.specs.declared.block.BlockFull.{BlockFull}
use Rattle.hse_fields.specs.BlockText.{header_size, page_cost, KeyEntry, key_text, place_text}
use Rattle.hse_fields.specs.declared.block.ValuePlace.{ValuePlace}
use Rattle.kblock.specs.declared.building.KeyBlockBuilder.{KeyBlockBuilder}
use Rattle.kblock.specs.Building.{Builds, goes_in, page_with, pages_with}
use Rattle.set_build.specs.Builders.{HoldsKeys, HoldKeys, OpenBlock, has_room_for_key, block_with, new_block, with_key, goes_in_last}
use Rattle.set_build.proofs.LastLemmas.{Last, last-grown, goes-last}

abbrev PagesFit : ℕ → Bool → List (List KeyEntry) → List KeyEntry → Type 0
PagesFit slot goes full page =
    header_size + page_cost * (length (if goes then full else full ++ page ∷ []) + 1) ≤ slot

room_by : (goes : Bool) (slot : ℕ) (full : List (List KeyEntry)) (page : List KeyEntry) → PagesFit slot goes full page
    → goes || nat_le (header_size + page_cost * (length full + 2)) slot ≡ true
room_by true slot full page fit = refl
room_by false slot full page fit = le-leb _ _ (omega (arith, fit, length-append full (page ∷ [])))

some_by : (goes : Bool) (page : List KeyEntry) (e : KeyEntry) → 1 ≤ length (if goes then page ++ e ∷ [] else e ∷ [])
some_by true page e = omega (arith, length-append page (e ∷ []))
some_by false page e = omega arith

-- the block with a key more that was put into it
grown_by : (slot : ℕ) (block : OpenBlock) (e : KeyEntry) (b : KeyBlockBuilder)
    → Builds slot (pages_with block.full block.page e) (page_with block.page e) b
    → HoldsKeys slot (block_with e block) b × (has_room_for_key slot e block ≡ true)
grown_by slot block e b builds = (
  (builds, some_by (goes_in block.page e) block.page e),
  room_by (goes_in block.page e) slot block.full block.page builds.within,
)

abbrev pub IsFull : ℕ → OpenBlock → KeyEntry → BlockFull → Type 0
IsFull slot block e full =
    (full.need ≡ page_cost) × (full.room ≡ slot - (header_size + page_cost * (length block.full + 1)))
    × (full.room < full.need) × (goes_in block.page e ≡ false)

full_by : (slot : ℕ) (block : OpenBlock) (e : KeyEntry) (full : BlockFull) → IsFull slot block e full
    → header_size + page_cost * (length block.full + 1) ≤ slot → has_room_for_key slot e block ≡ false
full_by slot block e full is within =
    let over : slot < header_size + page_cost * (length block.full + 2) = omega (arith, is.0, is.1, is.2, within) in
    rw is.3 (lt-leb (header_size + page_cost * (length block.full + 2)) slot over)

pub pushed : (slot : ℕ) (held : List OpenBlock) (bs : List KeyBlockBuilder) (at : ℕ) (e : KeyEntry) (b new : KeyBlockBuilder)
    (result : Result (Unit {0}) BlockFull) → (last : Last (HoldsKeys slot) held bs at b)
    → OnOk result (Builds slot (pages_with last.last.full last.last.page e) (page_with last.last.page e) new)
    → IfErr result (IsFull slot last.last e)
    → MatchBool (is_ok result) (HoldKeys slot (with_key slot held e) (set bs at new))
    (goes_in_last (has_room_for_key slot e) held ≡ false)
pushed slot held bs at e b new (Ok x) last added full =
    let grown = grown_by slot last.last e new added in
    subst (λ (l : List OpenBlock). HoldKeys slot l (set bs at new))
    (sym (ap (λ (l : List OpenBlock). with_key slot l e) last.is ∙ last-grown (has_room_for_key slot e) (block_with e) (new_block e) last.closed last.last grown.1))
    (last.changed (block_with e last.last) new grown.0)
pushed slot held bs at e b new (Err refused) last added full =
    ap (goes_in_last (has_room_for_key slot e)) last.is
    ∙ goes-last (has_room_for_key slot e) last.closed last.last
    ∙ full_by slot last.last e refused full last.holds.0.within

-- an empty block takes the key
pub first_goes : (slot : ℕ) (e : KeyEntry) (result : Result (Unit {0}) BlockFull) → goes_in [] e ≡ true
    → IfErr result (λ full. (full.need ≡ page_cost) × (full.room ≡ slot - (header_size + page_cost * (length {A = List KeyEntry} [] + 1)))
    × (full.room < full.need) × (goes_in [] e ≡ false)) → IsOk result
first_goes slot e (Ok x) goes full = refl
first_goes slot e (Err refused) goes full = absurd cc

pub place_short : (value : Option ValuePlace) → length (place_text value) ≤ 12
place_short None = omega arith
place_short (Some place) = omega arith

-- an empty page takes a key of a length within the limits
pub key_short : (e : KeyEntry) → length e.key ≤ 1344 → goes_in [] e ≡ true
key_short e short =
    let one : length (key_text e) ≡ suc (suc (suc (suc (suc (suc (suc (suc (suc (suc (suc (length (e.key ++ place_text e.value)))))))))))) = refl in
    le-leb _ _ (omega (arith, one, short, length-append e.key (place_text e.value), place_short e.value))
