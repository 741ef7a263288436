-- Entries as a block has them, and the block that they fill.
use Rattle.std.specs.Prelude.{◌≡◌, ℕ, ◌+◌, ◌-◌, ◌<◌, ◌≤◌, Bool, true, false, List, [], ◌∷◌, ◌++◌, length, map, take, drop, get_or, Option, Some, Result, Ok, Err}
use Rattle.hse_fields.specs.BlockText.{PrefixEntry, prefix_block_text}
use Rattle.hse_fields.specs.BlockReading.{prefix_entry}
use Rattle.prefix_delete.specs.declared.entry.Entry.{Entry}
use Rattle.prefix_delete.specs.declared.fault.PrefixBlockFault.{PrefixBlockFault}
use Rattle.prefix_delete.specs.declared.fault.PrefixBlockFault.TheVariants as fault
use Rattle.prefix_delete.specs.Prefixes.{entry_of}

-- an entry as a block has it, and as a list has it
abbrev pub in_block : Entry → PrefixEntry
in_block entry = prefix_entry entry.number entry.prefix

abbrev pub of_block : PrefixEntry → Entry
of_block entry = entry_of entry.prefix entry.number

-- the block of entries
abbrev pub block_of : List Entry → List ℕ
block_of entries = prefix_block_text (map in_block entries)

-- the last prefix of these entries, or else the one before them
abbrev pub last_prefix : Option (List ℕ) → List Entry → Option (List ℕ)
last_prefix last [] = last
last_prefix last (entry ∷ entries) = last_prefix (Some entry.prefix) entries

-- A block of at most slot bytes with the first of these entries: one at least, and all that fit.
pub record IsFront (entries : List Entry) (slot : ℕ) (block : List ℕ) (count : ℕ) : Type 0 where
  pub some : 0 < count
  pub within : count ≤ length entries
  pub text : block ≡ block_of (take count entries)
  pub fits : length block ≤ slot
  pub full : (entry : Entry) → count < length entries → slot < length block + (9 + length (get_or entries count entry).prefix)

-- The block of at most slot bytes with the entries from one on to before the next: the next one, if there is one, does not
-- fit into it.
abbrev pub IsFilled : List Entry → ℕ → ℕ → List ℕ → ℕ → Type 0
IsFilled entries from slot block next = (from ≤ next) × IsFront (drop from entries) slot block (next - from)

-- What a reading of a block adds to the entries, and how it refuses one.
abbrev pub Adds : List Entry → List Entry → Result (List PrefixEntry) ℕ → Type 0
Adds old new (Ok entries) = new ≡ old ++ map of_block entries
Adds old new (Err place) = ⊥

abbrev pub Refuses : Result (List PrefixEntry) ℕ → PrefixBlockFault → Type 0
Refuses read (fault.Damaged place) = read ≡ Err place
Refuses read fault.NoMemory = Unit {0}

-- what was in use stays in use
abbrev pub KeepsUsed : List Bool → List Bool → Type 0
KeepsUsed old new = (n : ℕ) → get_or old n false ≡ true → get_or new n false ≡ true
