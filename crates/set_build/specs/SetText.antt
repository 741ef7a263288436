-- The blocks of a set: its rows in the order of a set, packed into blocks as full as they go.
use Rattle.std.specs.Prelude.{ℕ, suc, ◌+◌, ◌-◌, Bool, cond, List, [], ◌∷◌, ◌++◌, length, map, Option, Some, None}
use Rattle.std.specs.List.{filter}
use Rattle.hse_rows.specs.declared.change.Change.{Change}
use Rattle.hse_rows.specs.declared.change.Change.TheVariants.{Put, Del, PDel}
use Rattle.hse_rows.specs.declared.row.Row.{Row}
use Rattle.hse_rows.specs.rows.Packing.{filled, header_bytes, page_bytes, page_with_index_bytes, is_prefix, has_value}
use Rattle.hse_rows.specs.writes.Change.{target}
use Rattle.hse_fields.specs.declared.block.ValuePlace.{ValuePlace}
use Rattle.hse_fields.specs.BlockText.{KeyEntry, PrefixEntry, prefix_text, key_text, key_block_text, prefix_block_text, value_block_text}
use Rattle.hse_fields.specs.BlockReading.{key_entry, prefix_entry}
use Rattle.hse_fields.specs.LogText.{sized}

-- What a set is packed of: the size of a slot, whether the values are written, and the rows, with the places of the puts'
-- values where they are not.
pub record Pushed : Type 0 where
  pub slot_size : ℕ
  pub values : Bool
  pub rows : List Row
  pub places : List ValuePlace

-- nothing yet
abbrev pub nothing : ℕ → Bool → Pushed
nothing slot_size values = record { slot_size = slot_size; values = values; rows = []; places = [] }

-- the place that comes with a put
abbrev pub place_with : Change → Option ValuePlace → List ValuePlace
place_with (Put key bytes) (Some place) = place ∷ []
place_with (Put key bytes) None = []
place_with (Del key) place = []
place_with (PDel prefix) place = []

-- one row more
abbrev pub with_row : Pushed → Row → Option ValuePlace → Pushed
with_row p row place = record p {
  rows = p.rows ++ row ∷ [];
  places = p.places ++ place_with row.change place;
}

-- the texts of the blocks of a set
pub record SetText : Type 0 where
  pub prefixes : List (List ℕ)
  pub keys : List (List ℕ)
  pub values : List (List ℕ)

-- ---- what blocks have of the rows

-- of prefix deletes
abbrev pub in_prefix_block : Row → PrefixEntry
in_prefix_block row = prefix_entry row.number (target row.change)

abbrev pub prefix_entries : List Row → List PrefixEntry
prefix_entries rows = map in_prefix_block (filter (λ row. is_prefix row.change) rows)

-- the values of puts
abbrev pub value_of : Change → List ℕ
value_of (Put key bytes) = bytes
value_of (Del key) = []
value_of (PDel prefix) = []

abbrev pub values_of : List Row → List (List ℕ)
values_of rows = map (λ row. value_of row.change) (filter (λ row. has_value row.change) rows)

-- ---- each goes into the last block where it fits, else into a new one

abbrev pub prefix_bytes : PrefixEntry → ℕ
prefix_bytes entry = length (prefix_text entry)

abbrev pub value_bytes : List ℕ → ℕ
value_bytes value = length (sized 4 value)

abbrev pub entry_bytes : KeyEntry → ℕ
entry_bytes entry = length (key_text entry)

abbrev pub cost_of_page : List KeyEntry → ℕ
cost_of_page page = page_with_index_bytes

abbrev pub prefix_blocks_of : ℕ → List PrefixEntry → List (List PrefixEntry)
prefix_blocks_of slot_size entries = filled prefix_bytes (slot_size - header_bytes) entries

abbrev pub value_blocks_of : ℕ → List (List ℕ) → List (List (List ℕ))
value_blocks_of slot_size values = filled value_bytes (slot_size - header_bytes) values

-- Of keys each goes into the last page where it fits, and each page into the last block.
abbrev pub pages_of : List KeyEntry → List (List KeyEntry)
pages_of entries = filled entry_bytes (page_bytes - 2) entries

abbrev pub key_blocks_of : ℕ → List KeyEntry → List (List (List KeyEntry))
key_blocks_of slot_size entries = filled cost_of_page (slot_size - header_bytes) (pages_of entries)

-- ---- where values stand

abbrev pub value_place : ℕ → ℕ → ℕ → ValuePlace
value_place block offset len = record { block = block; offset = offset; len = len }

-- those of a block, the first of which begins at this offset
abbrev pub places_in : ℕ → ℕ → List (List ℕ) → List ValuePlace
places_in block offset [] = []
places_in block offset (value ∷ values) =
    value_place block offset (length value) ∷ places_in block (offset + value_bytes value) values

-- those of blocks, the first of which has this number
abbrev pub places_of : ℕ → List (List (List ℕ)) → List ValuePlace
places_of block [] = []
places_of block (values ∷ blocks) = places_in block header_bytes values ++ places_of (suc block) blocks

-- the blocks of the values that are written
abbrev pub values_by_block : Pushed → List (List (List ℕ))
values_by_block p = cond p.values (value_blocks_of p.slot_size (values_of p.rows)) []

-- the places of all puts' values
abbrev pub all_places : Pushed → List ValuePlace
all_places p = cond p.values (places_of 0 (values_by_block p)) p.places

-- ---- the entries of keys

-- a row's, of which a put takes the first of these places
abbrev pub entries_of_row : ℕ → Change → List ValuePlace → List KeyEntry
entries_of_row number (Put key bytes) (place ∷ places) = key_entry number key (Some place) ∷ []
entries_of_row number (Put key bytes) [] = key_entry number key None ∷ []
entries_of_row number (Del key) places = key_entry number key None ∷ []
entries_of_row number (PDel prefix) places = []

-- the places that it leaves
abbrev pub later_places : Change → List ValuePlace → List ValuePlace
later_places (Put key bytes) (place ∷ places) = places
later_places (Put key bytes) [] = []
later_places (Del key) places = places
later_places (PDel prefix) places = places

-- those of rows, whose puts have these places in order
abbrev pub entries_at : List Row → List ValuePlace → List KeyEntry
entries_at [] places = []
entries_at (row ∷ rows) places =
    entries_of_row row.number row.change places ++ entries_at rows (later_places row.change places)

abbrev pub key_entries : Pushed → List KeyEntry
key_entries p = entries_at p.rows (all_places p)

-- ---- the set

abbrev pub text_of : Pushed → SetText
text_of p = record {
  prefixes = map prefix_block_text (prefix_blocks_of p.slot_size (prefix_entries p.rows));
  keys = map key_block_text (key_blocks_of p.slot_size (key_entries p));
  values = map value_block_text (values_by_block p);
}
