-- The texts of the three blocks that a set of rows is kept in, of values, of prefix deletes and of keys:
--
--     header          u8 kind (`V`, `P` or `K`); three zero bytes; u32 used bytes, the header's among them; u32 entries, at
--                     least 1; u32 pages, 0 but for keys
--     value           u32 length (at most what a slot allows), the value
--     prefix delete   u64 number, u8 length (1 to 32), the prefix; ascending by prefix
--     key             u8 1 of a put or 2 of a deletion, u64 number, u16 length (1 to 1,344), the key, and of a put u32 block, u32
--                     offset of the value's entry in it, u32 length of the value; ascending by key
--     page            u16 entries, at least 1; the keys; zeros up to 4,096 bytes
--
-- Keys stand in pages, and behind the pages stands for each of them a u32, the number of keys before it.
use Rattle.std.specs.Prelude.{ℕ, ◌+◌, ◌-◌, ◌*◌, List, [], ◌∷◌, ◌++◌, length, replicate, Option, Some, None, ◌==◌, if◌then◌else◌}
use Rattle.std.specs.List.{flat_map, sum_by}
use Rattle.byteorder.specs.Endian.{big_bytes}
use Rattle.hse_fields.specs.LogText.{sized}
use Rattle.hse_fields.specs.declared.block.ValuePlace.{ValuePlace}

-- how many bytes a block's header has
abbrev pub header_size : ℕ
header_size = 16

-- how many bytes a page has, and how many with the number behind the pages
abbrev pub page_size : ℕ
page_size = 4096

abbrev pub page_cost : ℕ
page_cost = 4100

-- the first byte of a block of values, of prefix deletes, and of keys
abbrev pub value_kind : ℕ
value_kind = 0x56

abbrev pub prefix_kind : ℕ
prefix_kind = 0x50

abbrev pub key_kind : ℕ
key_kind = 0x4B

-- a prefix, and the number of its deletion
pub record PrefixEntry : Type 0 where
  pub number : ℕ
  pub prefix : List ℕ

-- a key, the number of its put or deletion, and where a put's value stands
pub record KeyEntry : Type 0 where
  pub number : ℕ
  pub key : List ℕ
  pub value : Option ValuePlace

-- a block's header: its kind, how many bytes are used, how many entries there are, and how many pages
abbrev pub block_header : ℕ → ℕ → ℕ → ℕ → List ℕ
block_header kind used count pages =
    big_bytes 1 kind ++ (big_bytes 3 0 ++ (big_bytes 4 used ++ (big_bytes 4 count ++ big_bytes 4 pages)))

-- a block without pages: its header, and the text of so many entries
abbrev pub block_text : ℕ → ℕ → List ℕ → List ℕ
block_text kind count entries = block_header kind (header_size + length entries) count 0 ++ entries

-- ---- values

abbrev pub values_text : List (List ℕ) → List ℕ
values_text values = flat_map (sized 4) values

abbrev pub value_block_text : List (List ℕ) → List ℕ
value_block_text values = block_text value_kind (length values) (values_text values)

-- The value of so many bytes whose entry begins at this offset, where the first of the values begins at start.
abbrev pub value_from : ℕ → List (List ℕ) → ℕ → ℕ → Option (List ℕ)
value_from start [] offset len = None
value_from start (value ∷ values) offset len =
    if start == offset
    then (if length value == len then Some value else None)
    else value_from (start + (4 + length value)) values offset len

-- the same in a block of values
abbrev pub value_at : List (List ℕ) → ℕ → ℕ → Option (List ℕ)
value_at values offset len = value_from header_size values offset len

-- ---- prefix deletes

abbrev pub prefix_text : PrefixEntry → List ℕ
prefix_text entry = big_bytes 8 entry.number ++ sized 1 entry.prefix

abbrev pub prefixes_text : List PrefixEntry → List ℕ
prefixes_text entries = flat_map prefix_text entries

abbrev pub prefix_block_text : List PrefixEntry → List ℕ
prefix_block_text entries = block_text prefix_kind (length entries) (prefixes_text entries)

-- ---- keys

-- whether a key has a value
abbrev pub key_code : Option ValuePlace → ℕ
key_code None = 2
key_code (Some place) = 1

abbrev pub place_text : Option ValuePlace → List ℕ
place_text None = []
place_text (Some place) = big_bytes 4 place.block ++ (big_bytes 4 place.offset ++ big_bytes 4 place.len)

abbrev pub key_text : KeyEntry → List ℕ
key_text entry =
    big_bytes 1 (key_code entry.value)
    ++ (big_bytes 8 entry.number ++ (sized 2 entry.key ++ place_text entry.value))

abbrev pub keys_text : List KeyEntry → List ℕ
keys_text entries = flat_map key_text entries

-- what of a page is used, and zeros up to its end
abbrev pub page_used : List KeyEntry → List ℕ
page_used entries = big_bytes 2 (length entries) ++ keys_text entries

abbrev pub page_text : List KeyEntry → List ℕ
page_text entries = page_used entries ++ replicate (page_size - length (page_used entries)) 0

-- for each page how many keys stand before it, where so many stand before the first
abbrev pub counts_text : ℕ → List (List KeyEntry) → List ℕ
counts_text before [] = []
counts_text before (page ∷ pages) = big_bytes 4 before ++ counts_text (before + length page) pages

abbrev pub key_block_text : List (List KeyEntry) → List ℕ
key_block_text pages =
    block_header key_kind (header_size + page_cost * length pages) (sum_by length pages) (length pages)
    ++ (flat_map page_text pages ++ counts_text 0 pages)
