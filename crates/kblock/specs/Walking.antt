-- The entries of a block one after the other, each with its place in the block.
use Rattle.std.specs.Prelude.{ℕ, ◌+◌, ◌*◌, ◌<◌, ◌≤◌, ◌^◌, List, [], ◌∷◌, ◌++◌, length, get_or, None, Result, Ok, Err}
use Rattle.hse_fields.specs.BlockText.{KeyEntry, key_text, page_size}
use Rattle.hse_fields.specs.BlockReading.{keys_of, pages_of}
use Rattle.kblock.specs.declared.walk.Spot.{Spot}
use Rattle.kblock.specs.Opened.{read_of}
use Rattle.kblock.specs.Searching.{IsRead}

-- the entries of a page, the first of which begins at this place
abbrev pub placed_keys : ℕ → List KeyEntry → List (ℕ × KeyEntry)
placed_keys at [] = []
placed_keys at (entry ∷ entries) = (at, entry) ∷ placed_keys (at + length (key_text entry)) entries

-- the entries of pages, the first of which begins at this place
abbrev pub placed_pages : ℕ → List (List KeyEntry) → List (ℕ × KeyEntry)
placed_pages start [] = []
placed_pages start (page ∷ pages) = placed_keys (start + 2) page ++ placed_pages (start + page_size) pages

-- the entries that were read
abbrev pub keys_read : Result (List KeyEntry × List ℕ) ℕ → List KeyEntry
keys_read (Ok x) = x.0
keys_read (Err left) = []

-- where the next page begins
abbrev pub page_end : Spot → ℕ
page_end spot = spot.at + length spot.keys.now

-- what is behind a spot: the entries that are left of its page, and those of the pages behind it
abbrev pub behind_spot : Spot → List (ℕ × KeyEntry)
behind_spot spot =
    placed_keys spot.at (keys_read (keys_of None spot.left spot.keys.now))
    ++ placed_pages (page_end spot) (read_of (pages_of (page_end spot) None spot.count spot.pages.now))

-- a spot behind which all can be read
pub record IsSpot (spot : Spot) : Type 0 where
  pub keys : IsRead (keys_of None spot.left spot.keys.now)
  pub pages : IsRead (pages_of (page_end spot) None spot.count spot.pages.now)
  pub keys_fit : (i : ℕ) → get_or spot.keys.now i 0 < 256
  pub pages_fit : (i : ℕ) → get_or spot.pages.now i 0 < 256
  pub room : page_size * spot.count ≤ length spot.pages.now
  pub small : page_end spot + page_size * spot.count < 2 ^ 48
