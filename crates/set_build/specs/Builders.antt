-- What the builders of a set's blocks hold, each of one block, of which the last is being filled.
use Rattle.std.specs.Prelude.{ℕ, suc, ◌+◌, ◌*◌, ◌≤◌, nat_le, Bool, false, ◌||◌, cond, List, [], ◌∷◌, ◌++◌, length, Some}
use Rattle.hse_fields.specs.declared.block.ValuePlace.{ValuePlace}
use Rattle.hse_fields.specs.BlockText.{header_size, page_cost, KeyEntry, values_text, key_block_text}
use Rattle.hse_fields.specs.BlockReading.{key_entry}
use Rattle.vblock.specs.declared.building.ValueBlockBuilder.{ValueBlockBuilder}
use Rattle.vblock.specs.Building as value_block
use Rattle.kblock.specs.declared.building.KeyBlockBuilder.{KeyBlockBuilder}
use Rattle.kblock.specs.Building as key_block
use Rattle.set_build.specs.SetText.{value_place}

-- each block has its builder
abbrev pub Pairs : {X B : Type 0} → (X → B → Type 0) → List X → List B → Type 0
Pairs P [] [] = Unit {0}
Pairs P [] (b ∷ bs) = ⊥
Pairs P (x ∷ xs) [] = ⊥
Pairs P (x ∷ xs) (b ∷ bs) = P x b × Pairs P xs bs

-- whether one more goes into the last of these blocks
abbrev pub goes_in_last : {X : Type 0} → (X → Bool) → List X → Bool
goes_in_last goes [] = false
goes_in_last goes (block ∷ []) = goes block
goes_in_last goes (block ∷ next ∷ blocks) = goes_in_last goes (next ∷ blocks)

-- the blocks with one more in the last, where it goes in, and else in a new one
abbrev pub with_last : {X : Type 0} → (X → Bool) → (X → X) → X → List X → List X
with_last goes grown new [] = new ∷ []
with_last goes grown new (block ∷ []) = cond (goes block) (grown block ∷ []) (block ∷ new ∷ [])
with_last goes grown new (block ∷ next ∷ blocks) = block ∷ with_last goes grown new (next ∷ blocks)

-- ---- values

-- a builder of a block of these values, of which there is one at least
abbrev pub HoldsValues : ℕ → List (List ℕ) → ValueBlockBuilder → Type 0
HoldsValues slot block b = value_block.Builds slot block b × (1 ≤ length block)

abbrev pub HoldValues : ℕ → List (List (List ℕ)) → List ValueBlockBuilder → Type 0
HoldValues slot = Pairs (HoldsValues slot)

-- whether a value of so many bytes goes into a block behind these
abbrev pub has_room : ℕ → ℕ → List (List ℕ) → Bool
has_room slot len block = nat_le (header_size + length (values_text block) + (4 + len)) slot

-- the blocks with a value more
abbrev pub with_value : ℕ → List (List (List ℕ)) → List ℕ → List (List (List ℕ))
with_value slot blocks value =
    with_last (has_room slot (length value)) (λ block. block ++ value ∷ []) (value ∷ []) blocks

-- where it then stands, where the first of the blocks has this number
abbrev pub place_behind : ℕ → ℕ → List (List (List ℕ)) → ℕ → ValuePlace
place_behind slot number [] len = value_place number header_size len
place_behind slot number (block ∷ []) len =
    cond (has_room slot len block) (value_place number (header_size + length (values_text block)) len)
    (value_place (suc number) header_size len)
place_behind slot number (block ∷ next ∷ blocks) len = place_behind slot (suc number) (next ∷ blocks) len

-- the entry of a key whose value goes behind these
abbrev pub entry_behind : ℕ → List (List (List ℕ)) → ℕ → List ℕ → ℕ → KeyEntry
entry_behind slot blocks number key len = key_entry number key (Some (place_behind slot 0 blocks len))

-- ---- keys

-- the pages of a block: those that are full, and the one that is open
pub record OpenBlock : Type 0 where
  pub full : List (List KeyEntry)
  pub page : List KeyEntry

abbrev pub all_pages : OpenBlock → List (List KeyEntry)
all_pages block = block.full ++ block.page ∷ []

-- the block's bytes
abbrev pub block_bytes : OpenBlock → List ℕ
block_bytes block = key_block_text (all_pages block)

-- a builder of a block of these pages, of which the open one has one key at least
abbrev pub HoldsKeys : ℕ → OpenBlock → KeyBlockBuilder → Type 0
HoldsKeys slot block b = key_block.Builds slot block.full block.page b × (1 ≤ length block.page)

abbrev pub HoldKeys : ℕ → List OpenBlock → List KeyBlockBuilder → Type 0
HoldKeys slot = Pairs (HoldsKeys slot)

-- whether a key goes into a block behind these pages
abbrev pub has_room_for_key : ℕ → KeyEntry → OpenBlock → Bool
has_room_for_key slot entry block =
    key_block.goes_in block.page entry || nat_le (header_size + page_cost * (length block.full + 2)) slot

-- the block with a key more
abbrev pub block_with : KeyEntry → OpenBlock → OpenBlock
block_with entry block = record {
  full = key_block.pages_with block.full block.page entry;
  page = key_block.page_with block.page entry;
}

abbrev pub new_block : KeyEntry → OpenBlock
new_block entry = record { full = []; page = entry ∷ [] }

-- the blocks with a key more
abbrev pub with_key : ℕ → List OpenBlock → KeyEntry → List OpenBlock
with_key slot blocks entry = with_last (has_room_for_key slot entry) (block_with entry) (new_block entry) blocks
