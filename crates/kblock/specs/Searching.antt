-- What a search in a block of keys sees of a page.
use Rattle.std.specs.Prelude.{◌≡◌, ◌<◌, ◌≤◌, slice_get, ℕ, zero, suc, Bool, true, false, List, take, drop, Option, None, Result, Ok, Err}
use Rattle.byteorder.specs.Endian.{big_number}
use Rattle.std.specs.List.{find}
use Rattle.std.specs.Ordering.{nat_cmp, is_gt}
use Rattle.std.specs.Cmp.Lexicographic.{slice_cmp}
use Rattle.hse_fields.specs.BlockText.{KeyEntry, page_size}
use Rattle.hse_fields.specs.BlockReading.{count_in, key_of, keys_of}
use Rattle.kblock.specs.Opened.{has_key}

-- the page at this index, counted from 0
abbrev pub page_at : ℕ → List ℕ → List ℕ
page_at zero pages = take page_size pages
page_at (suc i) pages = page_at i (drop page_size pages)

-- nothing was refused
abbrev pub IsRead : {A : Type 0} → Result A ℕ → Type 0
IsRead (Ok x) = Unit {0}
IsRead (Err left) = ⊥

-- what the keys of a page read as, whatever stands before them
abbrev pub page_keys : List ℕ → Result (List KeyEntry × List ℕ) ℕ
page_keys page = keys_of None (count_in page) (drop 2 page)

-- the entry of this key, among entries that were read
abbrev pub found_in : List ℕ → Result (List KeyEntry × List ℕ) ℕ → Option KeyEntry
found_in key (Ok x) = find (has_key key) x.0
found_in key (Err left) = None

-- whether the key that was read stands above this one
abbrev pub is_beyond : List ℕ → Result (KeyEntry × List ℕ) ℕ → Bool
is_beyond key (Ok x) = is_gt (slice_cmp nat_cmp x.0.key key)
is_beyond key (Err left) = true

-- whether a page begins above this key
abbrev pub begins_above : List ℕ → List ℕ → Bool
begins_above key page = is_beyond key (key_of None (drop 2 page))

-- the last one of so many pages does not begin above this key
abbrev pub IsUpTo : List ℕ → List ℕ → ℕ → Type 0
IsUpTo key pages zero = Unit {0}
IsUpTo key pages (suc i) = begins_above key (page_at i pages) ≡ false

-- the page at this index, if there is one of so many, begins above this key
abbrev pub IsBehind : List ℕ → List ℕ → ℕ → ℕ → Type 0
IsBehind key pages count i = i < count → begins_above key (page_at i pages) ≡ true

-- the number behind pages at this index
abbrev pub number_at : ℕ → List ℕ → ℕ
number_at zero numbers = big_number 4 (take 4 numbers)
number_at (suc i) numbers = number_at i (drop 4 numbers)

-- no more keys than so many stand before the last one of so many pages
abbrev pub IsFrom : ℕ → List ℕ → ℕ → Type 0
IsFrom at numbers zero = Unit {0}
IsFrom at numbers (suc i) = number_at i numbers ≤ at

-- more keys than so many stand before the page at this index, if there is one of so many
abbrev pub IsBefore : ℕ → List ℕ → ℕ → ℕ → Type 0
IsBefore at numbers count i = i < count → at < number_at i numbers

-- the entry at this index, of entries that were read
abbrev pub nth_of : ℕ → Result (List KeyEntry × List ℕ) ℕ → Option KeyEntry
nth_of at (Ok x) = slice_get x.0 at
nth_of at (Err left) = None
