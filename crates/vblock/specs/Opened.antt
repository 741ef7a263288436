-- What an opened block of values holds.
use Rattle.std.specs.Prelude.{◌≡◌, ℕ, ◌≤◌, List, [], length, Option, None, Result, Ok, Err}
use Rattle.hse_fields.specs.LogLimits.{longest_value}
use Rattle.hse_fields.specs.BlockText.{header_size, value_from}
use Rattle.hse_fields.specs.BlockReading.{body_of, values_of}

-- what was read, or nothing
abbrev pub read_of : Result (List (List ℕ) × List ℕ) ℕ → List (List ℕ)
read_of (Ok x) = x.0
read_of (Err left) = []

-- the values of a block with so many used bytes and entries
abbrev pub values_in : ℕ → ℕ → List ℕ → List (List ℕ)
values_in used count bytes = read_of (values_of longest_value count (body_of used bytes))

-- The used bytes are the header and so many entries.
pub record IsOpened (used count : ℕ) (bytes : List ℕ) : Type 0 where
  pub header : header_size ≤ used
  pub within : used ≤ length bytes
  pub read : values_of longest_value count (body_of used bytes) ≡ Ok (values_in used count bytes, [])

-- the value that begins at an offset, of values that were read from start on
abbrev pub found_in : ℕ → ℕ → ℕ → Result (List (List ℕ) × List ℕ) ℕ → Option (List ℕ)
found_in start offset len (Ok x) = value_from start x.0 offset len
found_in start offset len (Err left) = None

-- nothing was refused
abbrev pub IsRead : Result (List (List ℕ) × List ℕ) ℕ → Type 0
IsRead (Ok x) = Unit {0}
IsRead (Err left) = ⊥
