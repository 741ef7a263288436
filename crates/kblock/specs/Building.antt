-- What a builder of a block of keys holds: full pages, and the page that is open.
use Rattle.std.specs.Prelude.{◌≡◌, ℕ, ◌+◌, ◌*◌, ◌≤◌, nat_le, Bool, List, [], ◌∷◌, ◌++◌, length, ◌^◌, vec_capacity, if◌then◌else◌}
use Rattle.std.specs.List.{flat_map, sum_by, AllByRecursion}
use Rattle.hse_fields.specs.BlockText.{header_size, page_size, page_cost, key_kind, block_header, KeyEntry, key_text, keys_text, page_used, page_text, counts_text}
use Rattle.kblock.specs.declared.building.KeyBlockBuilder.{KeyBlockBuilder}

-- a page's keys fit into it
abbrev pub FitsPage : List KeyEntry → Type 0
FitsPage page = length (page_used page) ≤ page_size

-- The builder holds these pages and the keys of the page that is open, for a block of at most so many bytes.
pub record Builds (slot : ℕ) (pages : List (List KeyEntry)) (page : List KeyEntry) (b : KeyBlockBuilder) : Type 0 where
  pub text : b.bytes.items ≡ block_header key_kind 0 0 0 ++ flat_map page_text pages
  pub counts : b.counts.items ≡ counts_text 0 pages
  pub keys : b.page.items ≡ keys_text page
  pub in_page : b.in_page ≡ length page
  pub before : b.before ≡ sum_by length pages
  pub counted : b.pages ≡ length pages
  pub size : b.slot ≡ slot
  pub small : slot ≤ 2 ^ 25
  pub fits : FitsPage page
  pub pages_fit : AllByRecursion FitsPage pages
  pub within : header_size + page_cost * (length pages + 1) ≤ slot
  pub reserved : slot ≤ vec_capacity b.bytes
  pub counts_reserved : slot ≤ 512 * vec_capacity b.counts + 511
  pub page_reserved : page_size ≤ vec_capacity b.page

-- whether a key goes into the page that is open
abbrev pub goes_in : List KeyEntry → KeyEntry → Bool
goes_in page entry = nat_le (2 + (length (keys_text page) + length (key_text entry))) page_size

-- the full pages and the open one with a key more
abbrev pub pages_with : List (List KeyEntry) → List KeyEntry → KeyEntry → List (List KeyEntry)
pages_with pages page entry = if goes_in page entry then pages else pages ++ page ∷ []

abbrev pub page_with : List KeyEntry → KeyEntry → List KeyEntry
page_with page entry = if goes_in page entry then page ++ entry ∷ [] else entry ∷ []
