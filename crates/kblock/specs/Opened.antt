-- What an opened block of keys holds.
use Rattle.std.specs.Prelude.{◌≡◌, ℕ, Bool, ◌+◌, ◌*◌, ◌≤◌, List, [], length, drop, None, Result, Ok, Err}
use Rattle.std.specs.List.{flat_map, sum_by}
use Rattle.std.specs.Ordering.{nat_cmp, is_eq}
use Rattle.std.specs.Cmp.Lexicographic.{slice_cmp}
use Rattle.hse_fields.specs.BlockText.{header_size, page_size, page_cost, KeyEntry}
use Rattle.hse_fields.specs.BlockReading.{body_of, counts_of, pages_of}
use Rattle.kblock.specs.Form.{ArePages}

-- the bytes of so many pages and of the numbers behind them
abbrev pub body_with : ℕ → List ℕ → List ℕ
body_with pages bytes = body_of (header_size + page_cost * pages) bytes

-- the numbers behind so many pages
abbrev pub numbers_with : ℕ → List ℕ → List ℕ
numbers_with pages bytes = drop (page_size * pages) (body_with pages bytes)

-- what was read, or nothing
abbrev pub read_of : {A : Type 0} → Result (List A) ℕ → List A
read_of (Ok xs) = xs
read_of (Err place) = []

-- the keys of a block with so many pages, page by page
abbrev pub pages_in : ℕ → List ℕ → List (List KeyEntry)
pages_in pages bytes = read_of (pages_of header_size None pages (body_with pages bytes))

-- The block has so many pages and keys, all within their limits and in order, and the numbers behind the pages are those of the keys before each.
pub record IsOpened (pages count : ℕ) (bytes : List ℕ) : Type 0 where
  pub within : header_size + page_cost * pages ≤ length bytes
  pub read : pages_of header_size None pages (body_with pages bytes) ≡ Ok (pages_in pages bytes)
  pub counted : count ≡ sum_by length (pages_in pages bytes)
  pub known : ArePages None (pages_in pages bytes)
  pub numbered : counts_of 0 pages (body_with pages bytes) (numbers_with pages bytes) ≡ Ok tt

-- all keys, in order
abbrev pub entries_of : List (List KeyEntry) → List KeyEntry
entries_of pages = flat_map (λ (page : List KeyEntry). page) pages

-- whether this is an entry's key
abbrev pub has_key : List ℕ → KeyEntry → Bool
has_key key entry = is_eq (slice_cmp nat_cmp entry.key key)
