-- How rows are packed into blocks: each block as full as it goes, in the order of the rows.
use Rattle.std.specs.Prelude.{ℕ, ◌+◌, ◌-◌, nat_le, Bool, true, false, cond, List, [], ◌∷◌, ◌++◌, length}
use Rattle.std.specs.List.{filter}
use Rattle.hse_rows.specs.declared.change.Change.{Change}
use Rattle.hse_rows.specs.declared.change.Change.TheVariants.{Put, Del, PDel}
use Rattle.hse_rows.specs.declared.row.Row.{Row}

module _ {X : Type 0} (size : X → ℕ) (room : ℕ) where
  -- what is left, where the open block has these and they take this much
  abbrev pub filled_from : List X → ℕ → List X → List (List X)
  filled_from block used [] = block ∷ []
  filled_from block used (x ∷ xs) =
      cond (nat_le (used + size x) room)
      (filled_from (block ++ x ∷ []) (used + size x) xs)
      (block ∷ filled_from (x ∷ []) (size x) xs)

  -- Each goes into the last block where it fits, else into a new one. Nothing makes no block.
  abbrev pub filled : List X → List (List X)
  filled [] = []
  filled (x ∷ xs) = filled_from (x ∷ []) (size x) xs

-- a block's header
abbrev pub header_bytes : ℕ
header_bytes = 16

-- a page with its count, and the number of entries before it, which stands behind the pages
abbrev pub page_bytes : ℕ
page_bytes = 4096

abbrev pub page_with_index_bytes : ℕ
page_with_index_bytes = 4100

-- a prefix delete: number, length and prefix
abbrev pub prefix_entry_bytes : Change → ℕ
prefix_entry_bytes (PDel prefix) = 9 + length prefix
prefix_entry_bytes (Put key bytes) = 0
prefix_entry_bytes (Del key) = 0

-- a key: kind, number, length and key, and of a put the place and the length of its value
abbrev pub key_entry_bytes : Change → ℕ
key_entry_bytes (Put key bytes) = 23 + length key
key_entry_bytes (Del key) = 11 + length key
key_entry_bytes (PDel prefix) = 0

-- a value: length and bytes
abbrev pub value_entry_bytes : Change → ℕ
value_entry_bytes (Put key bytes) = 4 + length bytes
value_entry_bytes (Del key) = 0
value_entry_bytes (PDel prefix) = 0

abbrev pub is_prefix : Change → Bool
is_prefix (PDel prefix) = true
is_prefix (Put key bytes) = false
is_prefix (Del key) = false

abbrev pub is_key : Change → Bool
is_key (PDel prefix) = false
is_key (Put key bytes) = true
is_key (Del key) = true

abbrev pub has_value : Change → Bool
has_value (Put key bytes) = true
has_value (Del key) = false
has_value (PDel prefix) = false

-- the rows of each block, and of a key block those of each page
abbrev pub prefix_blocks : ℕ → List Row → List (List Row)
prefix_blocks slot_size rows =
    filled (λ row. prefix_entry_bytes row.change) (slot_size - header_bytes) (filter (λ row. is_prefix row.change) rows)

abbrev pub key_pages : List Row → List (List Row)
key_pages rows =
    filled (λ row. key_entry_bytes row.change) (page_bytes - 2) (filter (λ row. is_key row.change) rows)

abbrev pub key_blocks : ℕ → List Row → List (List (List Row))
key_blocks slot_size rows = filled (λ page. page_with_index_bytes) (slot_size - header_bytes) (key_pages rows)

abbrev pub value_blocks : ℕ → List Row → List (List Row)
value_blocks slot_size rows =
    filled (λ row. value_entry_bytes row.change) (slot_size - header_bytes) (filter (λ row. has_value row.change) rows)
