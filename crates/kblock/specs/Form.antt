-- Which keys a block may have.
use Rattle.std.specs.Prelude.{◌≡◌, ℕ, ◌+◌, ◌*◌, ◌^◌, ◌<◌, ◌≤◌, true, List, [], ◌∷◌, length, Option, Some, None}
use Rattle.hse_fields.specs.LogLimits.{longest_key}
use Rattle.hse_fields.specs.declared.block.ValuePlace.{ValuePlace}
use Rattle.hse_fields.specs.BlockText.{header_size, page_size, page_cost, KeyEntry, page_used}
use Rattle.hse_fields.specs.BlockReading.{is_above, last_key}

abbrev pub PlaceFits : Option ValuePlace → Type 0
PlaceFits None = Unit {0}
PlaceFits (Some place) = (place.block < 2 ^ 32) × (place.offset < 2 ^ 32) × (place.len < 2 ^ 32)

-- a key within its limits, above the last one
pub record IsKey (last : Option (List ℕ)) (entry : KeyEntry) : Type 0 where
  pub above : is_above last entry.key ≡ true
  pub some : 1 ≤ length entry.key
  pub short : length entry.key ≤ longest_key
  pub small : entry.number < 2 ^ 64
  pub fits : PlaceFits entry.value

abbrev pub AreKeys : Option (List ℕ) → List KeyEntry → Type 0
AreKeys last [] = Unit {0}
AreKeys last (e ∷ es) = IsKey last e × AreKeys (Some e.key) es

-- one key or more, no more than fit into a page
pub record IsPageOf (last : Option (List ℕ)) (page : List KeyEntry) : Type 0 where
  pub keys : AreKeys last page
  pub some : 1 ≤ length page
  pub fits : length (page_used page) ≤ page_size

abbrev pub ArePages : Option (List ℕ) → List (List KeyEntry) → Type 0
ArePages last [] = Unit {0}
ArePages last (p ∷ ps) = IsPageOf last p × ArePages (last_key last p) ps

-- one page or more behind the last key of the block before, fewer bytes than the used bytes can say
pub record AreKeyPages (last : Option (List ℕ)) (all : List (List KeyEntry)) : Type 0 where
  pub pages : ArePages last all
  pub some : 1 ≤ length all
  pub within : header_size + page_cost * length all < 2 ^ 32
