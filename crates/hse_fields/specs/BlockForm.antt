-- Which entries a block may have.
use Rattle.std.specs.Prelude.{◌≡◌, ℕ, ◌+◌, ◌^◌, ◌<◌, ◌≤◌, true, List, [], ◌∷◌, length, Option, Some}
use Rattle.std.specs.List.{AllByRecursion}
use Rattle.hse_fields.specs.LogLimits.{longest_prefix}
use Rattle.hse_fields.specs.BlockText.{header_size, values_text, PrefixEntry, prefixes_text}
use Rattle.hse_fields.specs.BlockReading.{is_above}

-- one value or more of at most so many bytes, with the header fewer bytes than the used bytes can say
pub record AreValues (most : ℕ) (values : List (List ℕ)) : Type 0 where
  pub some : 1 ≤ length values
  pub counted : length values < 2 ^ 32
  pub each : AllByRecursion (λ (value : List ℕ). length value ≤ most) values
  pub within : header_size + length (values_text values) < 2 ^ 32

-- each prefix is within its limits and above the one before it
abbrev pub AreRising : Option (List ℕ) → List PrefixEntry → Type 0
AreRising last [] = Unit {0}
AreRising last (e ∷ es) =
    (is_above last e.prefix ≡ true) × (1 ≤ length e.prefix) × (length e.prefix ≤ longest_prefix) × (e.number < 2 ^ 64)
    × AreRising (Some e.prefix) es

-- one prefix delete or more, behind the last one of the block before
pub record ArePrefixEntries (last : Option (List ℕ)) (entries : List PrefixEntry) : Type 0 where
  pub some : 1 ≤ length entries
  pub counted : length entries < 2 ^ 32
  pub rising : AreRising last entries
  pub within : header_size + length (prefixes_text entries) < 2 ^ 32
