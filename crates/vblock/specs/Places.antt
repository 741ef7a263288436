-- Where the entries of a block of values begin.
use Rattle.std.specs.Prelude.{◌≡◌, ℕ, ◌+◌, ◌-◌, ◌≤◌, true, List, [], ◌∷◌, length, take, drop, Option, Some, None, is_some, Result, Ok, Err}
use Rattle.hse_fields.specs.LogLimits.{longest_value}
use Rattle.hse_fields.specs.LogReading.{sized_of}
use Rattle.hse_fields.specs.BlockText.{header_size}

-- the offsets of the entries of values, where the first begins at start
abbrev pub offsets_from : ℕ → List (List ℕ) → List ℕ
offsets_from start [] = []
offsets_from start (value ∷ values) = start ∷ offsets_from (start + (4 + length value)) values

abbrev pub offsets_of : List (List ℕ) → List ℕ
offsets_of values = offsets_from header_size values

-- the value that was read, if one was
abbrev pub value_read : Result (List ℕ × List ℕ) ℕ → Option (List ℕ)
value_read (Ok x) = Some x.0
value_read (Err left) = None

-- the value that is read at an offset of a block whose entries are these
abbrev pub value_entry : ℕ → List ℕ → Option (List ℕ)
value_entry offset entries = value_read (sized_of 4 0 longest_value (drop (offset - header_size) entries))

-- so many bytes behind the length at an offset of a block whose entries are these
abbrev pub bytes_at : ℕ → ℕ → List ℕ → List ℕ
bytes_at offset len entries = take len (drop 4 (drop (offset - header_size) entries))

-- a value can be read at this offset of a block whose entries are these
pub record IsEntry (offset : ℕ) (entries : List ℕ) : Type 0 where
  pub low : header_size ≤ offset
  pub room : offset - header_size ≤ length entries
  pub read : is_some (value_entry offset entries) ≡ true
