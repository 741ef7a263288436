-- What of a reading of keys goes on to the next one.
use Rattle.std.specs.Prelude.{ℕ, List, length, Option, Result, Ok, Err, ◌==◌}
use Rattle.hse_fields.specs.Fields.{number_of}
use Rattle.hse_fields.specs.LogReading.{◌>>=◌, ensure}
use Rattle.hse_fields.specs.BlockText.{KeyEntry}
use Rattle.hse_fields.specs.BlockReading.{last_key}

-- the last key, and the bytes behind it
abbrev pub ends : Option (List ℕ) → Result (List KeyEntry × List ℕ) ℕ → Result (Option (List ℕ) × List ℕ) ℕ
ends last (Ok x) = Ok (last_key last x.0, x.1)
ends last (Err left) = Err left

-- the last key of a page
abbrev pub page_ends : Option (List ℕ) → Result (List KeyEntry) ℕ → Result (Option (List ℕ)) ℕ
page_ends last (Ok keys) = Ok (last_key last keys)
page_ends last (Err left) = Err left

-- whether anything is refused
abbrev pub passes : {A : Type 0} → Result A ℕ → Result (Unit {0}) ℕ
passes (Ok x) = Ok tt
passes (Err place) = Err place

-- the bytes behind the number of keys before a page, which must be this one
unfoldable pub number_is : ℕ → List ℕ → Result (List ℕ) ℕ
number_is before bytes = do
  number ← number_of 4 bytes
  agrees ← ensure (number.0 == before) (length bytes)
  Ok number.1
