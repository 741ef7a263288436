-- What is read again of the blocks of a set.
use Rattle.std.specs.Prelude.{◌≡◌, ℕ, ◌^◌, ◌<◌, ◌≤◌, true, false, List, [], ◌∷◌, ◌++◌, length, map, Option, Some, None, Result, Ok}
use Rattle.std.specs.List.{AllByRecursion, flat_map}
use Rattle.hse_fields.specs.declared.block.ValuePlace.{ValuePlace}
use Rattle.hse_rows.specs.writes.Lengths.{longest_value_in}
use Rattle.hse_fields.specs.BlockText.{KeyEntry, PrefixEntry}
use Rattle.hse_fields.specs.BlockReading.{last_key}
use Rattle.hse_fields.specs.BlockForm.{ArePrefixEntries, AreValues}
use Rattle.kblock.specs.Form.{AreKeyPages, PlaceFits}
use Rattle.hse_rows.specs.declared.row.Row.{Row}
use Rattle.hse_rows.specs.rows.RowSets.{AreRows}
use Rattle.kvset.specs.declared.block.Block.{Block}
use Rattle.kvset.specs.Reading.{last_name, Contents}
use Rattle.kvset.specs.Rows.{value_of}
use Rattle.kvset.specs.Parts.{contents_rows}
use Rattle.set_build.specs.SetText.{Pushed, SetText, values_of, values_by_block, prefix_entries, prefix_blocks_of, key_entries, key_blocks_of}
use Rattle.set_build.specs.Packs.{puts_in}
use Rattle.set_build.specs.Builders.{Pairs}

-- a value that may be written to blocks of such a size
abbrev pub MayWrite : ℕ → List ℕ → Type 0
MayWrite slot_size value = length value ≤ longest_value_in slot_size

-- the last key of a block's pages, or else the one before them
abbrev pub last_in_block : Option (List ℕ) → List (List KeyEntry) → Option (List ℕ)
last_in_block last pages = last_key last (flat_map (λ (page : List KeyEntry). page) pages)

-- the blocks of keys of a set, each behind the last key of the block before
abbrev pub AreSetKeys : Option (List ℕ) → List (List (List KeyEntry)) → Type 0
AreSetKeys last [] = Unit {0}
AreSetKeys last (pages ∷ blocks) = AreKeyPages last pages × AreSetKeys (last_in_block last pages) blocks

-- the blocks of prefix deletes of a set, each behind the last prefix of the block before
abbrev pub AreSetPrefixes : Option (List ℕ) → List (List PrefixEntry) → Type 0
AreSetPrefixes last [] = Unit {0}
AreSetPrefixes last (entries ∷ blocks) = ArePrefixEntries last entries × AreSetPrefixes (last_name last entries) blocks

-- ---- sets that may be written

-- a place whose numbers have four bytes each
abbrev pub CanBeSaid : ValuePlace → Type 0
CanBeSaid place = PlaceFits (Some place)

-- Rows in order whose numbers have eight bytes; their values, if they are written, are within the limits and in no more
-- blocks than four bytes can number; and else each put has a place.
pub record MayBeWritten (p : Pushed) : Type 0 where
  pub large : 2 ^ 16 ≤ p.slot_size
  pub small : p.slot_size ≤ 2 ^ 25
  pub rows : AreRows p.rows
  pub numbers : AllByRecursion (λ (row : Row). row.number < 2 ^ 64) p.rows
  pub written : p.values ≡ true → AllByRecursion (MayWrite p.slot_size) (values_of p.rows)
  pub few : length (values_by_block p) ≤ 2 ^ 32
  pub placed : p.values ≡ false → length p.places ≡ length (puts_in p.rows)
  pub places_said : p.values ≡ false → AllByRecursion CanBeSaid p.places

-- The blocks of a set have the form of blocks, so that each is read as it was packed.
pub record AreFormed (p : Pushed) : Type 0 where
  pub prefixes : AreSetPrefixes None (prefix_blocks_of p.slot_size (prefix_entries p.rows))
  pub keys : AreSetKeys None (key_blocks_of p.slot_size (key_entries p))
  pub values : AllByRecursion (AreValues (longest_value_in p.slot_size)) (values_by_block p)

-- ---- packed sets in slots

-- the bytes of a slot begin with those of a block
abbrev pub BeginsWith : List ℕ → Block → Type 0
BeginsWith text block = (rest : List ℕ) × (block.bytes.items ≡ text ++ rest)

-- the blocks are in slots, in their order
abbrev pub ArePut : List (List ℕ) → List Block → Type 0
ArePut = Pairs BeginsWith

-- those of prefix deletes and of keys, which a set always has of its own
pub record IsPut (text : SetText) (prefix_blocks key_blocks : List Block) : Type 0 where
  pub prefixes : ArePut text.prefixes prefix_blocks
  pub keys : ArePut text.keys key_blocks

-- the places lead to the values of the rows, among blocks of such values
abbrev pub LeadTo : List (List (List ℕ)) → List ValuePlace → List Row → Type 0
LeadTo values places rows = map (value_of values) places ≡ map (λ (value : List ℕ). Some value) (values_of rows)

-- A set is opened, and has these rows.
pub record HasRows (pushed : List Row) (opened : Result Contents (ℕ × ℕ)) : Type 0 where
  pub contents : Contents
  pub is : opened ≡ Ok contents
  pub rows : contents_rows contents ≡ pushed
