-- Reading a set from its blocks: the prefix deletes, the keys, the values, then which values the keys name. A refusal is
-- the slot and the place in it.
use Rattle.std.specs.Prelude.{◌≡◌, ℕ, ◌+◌, ◌≤◌, ◌^◌, List, [], ◌∷◌, ◌++◌, length, map, drop, Option, Some, None, Result, Ok, Err, if◌then◌else◌}
use Rattle.std.specs.List.{flat_map}
use denote.Ref.{Bor}
use Rattle.hse_rows.specs.writes.Lengths.{longest_value_in}
use Rattle.hse_fields.specs.BlockText.{header_size, KeyEntry, PrefixEntry}
use Rattle.hse_fields.specs.BlockReading.{key_block_of, last_key, prefix_block_of, value_block_of}
use Rattle.kblock.specs.Opened.{entries_of}
use Rattle.kblock.specs.Form.{AreKeyPages}
use Rattle.kblock.specs.Walking.{placed_pages}
use Rattle.prefix_delete.specs.declared.entry.Entry.{Entry}
use Rattle.prefix_delete.specs.Blocks.{of_block}
use Rattle.kvset.specs.declared.block.Block.{Block}
use Rattle.kvset.specs.declared.keys.KeyPart.{KeyPart}
use Rattle.kvset.specs.declared.block.SetFault.{SetFault}
use Rattle.kvset.specs.declared.block.SetFault.TheVariants.{Damaged, NoMemory}
use Rattle.kvset.specs.Rows.{is_met}

infixl 10 ◌>>=◌
abbrev pub ◌>>=◌ : {A B : Type 0} → Result A (ℕ × ℕ) → (A → Result B (ℕ × ℕ)) → Result B (ℕ × ℕ)
(Ok x) >>= f = f x
(Err spot) >>= f = Err spot

-- a refusal of a block, in its slot
abbrev pub in_slot : {A : Type 0} → ℕ → Result A ℕ → Result A (ℕ × ℕ)
in_slot slot (Ok x) = Ok x
in_slot slot (Err place) = Err (slot, place)

-- the last prefix of these, or else the one before them
abbrev pub last_name : Option (List ℕ) → List PrefixEntry → Option (List ℕ)
last_name last [] = last
last_name last (entry ∷ entries) = last_name (Some entry.prefix) entries

-- the prefix deletes of blocks behind the last one
unfoldable pub prefixes_of : Option (List ℕ) → List Block → Result (List PrefixEntry) (ℕ × ℕ)
prefixes_of last [] = Ok []
prefixes_of last (block ∷ blocks) = do
  entries ← in_slot block.slot (prefix_block_of last block.bytes.items)
  others ← prefixes_of (last_name last entries) blocks
  Ok (entries ++ others)

-- the pages of blocks behind the last key
unfoldable pub pages_of : Option (List ℕ) → List Block → Result (List (List (List KeyEntry))) (ℕ × ℕ)
pages_of last [] = Ok []
pages_of last (block ∷ blocks) = do
  pages ← in_slot block.slot (key_block_of last block.bytes.items)
  others ← pages_of (last_key last (entries_of pages)) blocks
  Ok (pages ∷ others)

-- the values of blocks, of a device with slots of this size
unfoldable pub values_of : ℕ → List Block → Result (List (List (List ℕ))) (ℕ × ℕ)
values_of slot_size [] = Ok []
values_of slot_size (block ∷ blocks) = do
  values ← in_slot block.slot (value_block_of (longest_value_in slot_size) block.bytes.items)
  others ← values_of slot_size blocks
  Ok (values ∷ others)

-- The values that placed keys of a slot name are there. One that is not is refused at the field of its block.
abbrev pub met_in : ℕ → List (List (List ℕ)) → List (ℕ × KeyEntry) → Result (Unit {0}) (ℕ × ℕ)
met_in slot values [] = Ok tt
met_in slot values (key ∷ keys) =
    if is_met values key.1.value then met_in slot values keys else Err (slot, key.0 + 11 + length key.1.key)

-- the same of the keys of blocks in these slots
unfoldable pub met_by : List ℕ → List (List (List ℕ)) → List (List (List KeyEntry)) → Result (Unit {0}) (ℕ × ℕ)
met_by [] values blocks = Ok tt
met_by (slot ∷ slots) values [] = Ok tt
met_by (slot ∷ slots) values (pages ∷ blocks) = do
  met ← met_in slot values (placed_pages header_size pages)
  met_by slots values blocks

abbrev pub slots_of : List Block → List ℕ
slots_of blocks = map (λ (block : Block). block.slot) blocks

-- What a set is opened to: the slots of its blocks, how many there are of prefix deletes, of keys and of values, and
-- what they hold.
pub record Contents : Type 0 where
  pub slots : List ℕ
  pub shape : ℕ × ℕ × ℕ
  pub prefixes : List Entry
  pub keys : List KeyEntry
  pub values : List (List (List ℕ))

-- a set whose values are known, and stand in these slots
unfoldable pub set_over : List Block → List Block → List ℕ → Result (List (List (List ℕ))) (ℕ × ℕ) → Result Contents (ℕ × ℕ)
set_over prefix_blocks key_blocks value_slots read = do
  prefixes ← prefixes_of None prefix_blocks
  pages ← pages_of None key_blocks
  values ← read
  met ← met_by (slots_of key_blocks) values pages
  Ok (record {
    slots = slots_of prefix_blocks ++ (slots_of key_blocks ++ value_slots);
    shape = (length prefix_blocks, length key_blocks, length values);
    prefixes = map of_block prefixes;
    keys = flat_map entries_of pages;
    values = values;
  })

-- a set of blocks of its own, on a device with slots of this size
abbrev pub set_of : ℕ → List Block → List Block → List Block → Result Contents (ℕ × ℕ)
set_of slot_size prefix_blocks key_blocks value_blocks =
    set_over prefix_blocks key_blocks (slots_of value_blocks) (values_of slot_size value_blocks)

-- the slots of a set's values, behind those of its prefix deletes and keys
abbrev pub value_slots : Contents → List ℕ
value_slots set = drop (set.shape.0 + set.shape.1) set.slots

-- the slots and the values of these sets, block by block
abbrev pub slots_over : List (Bor Contents) → List ℕ
slots_over run = flat_map (λ (set : Bor Contents). value_slots set.now) run

abbrev pub values_over : List (Bor Contents) → List (List (List ℕ))
values_over run = flat_map (λ (set : Bor Contents). set.now.values) run

-- a block whose keys stand behind the last one, before which there are so many
pub record IsPart (last : Option (List ℕ)) (before : ℕ) (block : Block) (part : KeyPart) : Type 0 where
  pub read : key_block_of last block.bytes.items ≡ Ok part.block
  pub keys : AreKeyPages last part.block
  pub slot : part.slot ≡ block.slot
  pub from : part.before ≡ before
  pub few : before + length (entries_of part.block) ≤ 2 ^ 62

-- how a reading is refused
abbrev pub Refuses : {A : Type 0} → Result A (ℕ × ℕ) → SetFault → Type 0
Refuses read (Damaged slot place) = read ≡ Err (slot, place)
Refuses read NoMemory = Unit {0}
