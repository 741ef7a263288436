-- Reading blocks from left to right. A field is a value and the bytes behind it. Of fields a refusal is the number of
-- bytes from the first refused one on; of a header and of a block it is the place.
use Rattle.std.specs.Prelude.{ℕ, zero, suc, ◌+◌, ◌-◌, ◌*◌, List, [], ◌∷◌, length, take, drop, Bool, true, Option, Some, None, Result, Ok, Err, nat_lt, nat_le, ◌==◌, ◌&&◌, ◌||◌, if◌then◌else◌}
use Rattle.std.specs.Ordering.{nat_cmp, is_lt}
use Rattle.std.specs.Cmp.Lexicographic.{slice_cmp}
use Rattle.byteorder.specs.Endian.{big_number}
use Rattle.hse_fields.specs.Fields.{number_of, bytes_of}
use Rattle.hse_fields.specs.LogLimits.{longest_key, longest_prefix}
use Rattle.hse_fields.specs.LogReading.{◌>>=◌, ensure, sized_of}
use Rattle.hse_fields.specs.BlockText.{header_size, page_size, page_cost, value_kind, prefix_kind, key_kind, PrefixEntry, KeyEntry}
use Rattle.hse_fields.specs.declared.block.BlockHeader.{BlockHeader}
use Rattle.hse_fields.specs.declared.block.ValuePlace.{ValuePlace}

-- a refusal as its place, by where the bytes end
abbrev pub placed : {A : Type 0} → ℕ → Result A ℕ → Result A ℕ
placed end (Ok x) = Ok x
placed end (Err left) = Err (end - left)

-- ---- the header

-- one byte, which must be this one
unfoldable pub byte_of : ℕ → List ℕ → Result (List ℕ) ℕ
byte_of wanted bytes = do
  byte ← number_of 1 bytes
  same ← ensure (byte.0 == wanted) (length bytes)
  Ok byte.1

-- The block's kind, three zero bytes, and how many bytes are used: the header's at least, and no more than there are.
unfoldable pub used_of : ℕ → ℕ → List ℕ → Result (ℕ × List ℕ) ℕ
used_of kind most bytes = do
  first ← byte_of kind bytes
  second ← byte_of 0 first
  third ← byte_of 0 second
  fourth ← byte_of 0 third
  used ← number_of 4 fourth
  within ← ensure (nat_le header_size used.0 && nat_le used.0 most) (length fourth)
  Ok (used.0, used.1)

abbrev pub header : ℕ → ℕ → ℕ → BlockHeader
header used count pages = record { used = used; count = count; pages = pages }

-- the kind, the used bytes, the number of entries and that of pages
unfoldable pub numbers_of : ℕ → ℕ → List ℕ → Result BlockHeader ℕ
numbers_of kind most bytes = do
  used ← used_of kind most bytes
  count ← number_of 4 used.1
  pages ← number_of 4 count.1
  Ok (header used.0 count.0 pages.0)

-- the header of a block of this kind, before its numbers are compared
abbrev pub header_of : ℕ → List ℕ → Result BlockHeader ℕ
header_of kind bytes = placed (length bytes) (numbers_of kind (length bytes) bytes)

-- The header of a block without pages, which has an entry. The place of the number of entries is 8, that of pages 12.
unfoldable pub plain_header_of : ℕ → List ℕ → Result BlockHeader ℕ
plain_header_of kind bytes = do
  head ← header_of kind bytes
  some ← ensure (nat_lt 0 head.count) 8
  none ← ensure (head.pages == 0) 12
  Ok head

-- the used bytes of a block behind its header
abbrev pub body_of : ℕ → List ℕ → List ℕ
body_of used bytes = drop header_size (take used bytes)

-- ---- values

-- So many values of at most so many bytes. A greater length is refused at itself.
unfoldable pub values_of : ℕ → ℕ → List ℕ → Result (List (List ℕ) × List ℕ) ℕ
values_of most zero bytes = Ok ([], bytes)
values_of most (suc n) bytes = do
  first ← sized_of 4 0 most bytes
  others ← values_of most n first.1
  Ok (first.0 ∷ others.0, others.1)

-- the bytes behind what was read
abbrev pub behind_of : {A : Type 0} → Result (A × List ℕ) ℕ → Result (List ℕ) ℕ
behind_of (Ok x) = Ok x.1
behind_of (Err left) = Err left

-- The values behind this header. Bytes left over are refused at the used bytes, whose place is 4.
unfoldable pub values_with : ℕ → BlockHeader → List ℕ → Result (List (List ℕ)) ℕ
values_with most head bytes = do
  values ← placed head.used (values_of most head.count (body_of head.used bytes))
  ended ← ensure (length values.1 == 0) 4
  Ok values.0

-- The values of a block, of at most so many bytes each, or the place of the first refused field. What stands behind the
-- used bytes is not read.
unfoldable pub value_block_of : ℕ → List ℕ → Result (List (List ℕ)) ℕ
value_block_of most bytes = do
  head ← plain_header_of value_kind bytes
  values_with most head bytes

-- ---- names in order

-- whether a name stands above the last one, if there is one
abbrev pub is_above : Option (List ℕ) → List ℕ → Bool
is_above None name = true
is_above (Some last) name = is_lt (slice_cmp nat_cmp last name)

-- Whether the name that is so many of these bytes stands above the last one. One that is cut off does not tell.
abbrev pub name_rises : Option (List ℕ) → ℕ → List ℕ → Bool
name_rises last size bytes = nat_lt (length bytes) size || is_above last (take size bytes)

-- A name behind its length, of an entry with so many bytes from its first one on. One that does not stand above the last
-- one is refused at the entry's first byte, the lower place, before its length is.
unfoldable pub name_of : ℕ → ℕ → Option (List ℕ) → ℕ → List ℕ → Result (List ℕ × List ℕ) ℕ
name_of width most last left bytes = do
  size ← number_of width bytes
  in_order ← ensure (name_rises last size.0 size.1) left
  within ← ensure (nat_le 1 size.0 && nat_le size.0 most) (length bytes)
  bytes_of size.0 size.1

-- ---- prefix deletes

abbrev pub prefix_entry : ℕ → List ℕ → PrefixEntry
prefix_entry number prefix = record { number = number; prefix = prefix }

unfoldable pub prefix_of : Option (List ℕ) → List ℕ → Result (PrefixEntry × List ℕ) ℕ
prefix_of last bytes = do
  number ← number_of 8 bytes
  name ← name_of 1 longest_prefix last (length bytes) number.1
  Ok (prefix_entry number.0 name.0, name.1)

-- so many prefix deletes behind the last one
unfoldable pub prefixes_of : Option (List ℕ) → ℕ → List ℕ → Result (List PrefixEntry × List ℕ) ℕ
prefixes_of last zero bytes = Ok ([], bytes)
prefixes_of last (suc n) bytes = do
  first ← prefix_of last bytes
  others ← prefixes_of (Some first.0.prefix) n first.1
  Ok (first.0 ∷ others.0, others.1)

-- the prefix deletes behind this header
unfoldable pub prefixes_with : Option (List ℕ) → BlockHeader → List ℕ → Result (List PrefixEntry) ℕ
prefixes_with last head bytes = do
  entries ← placed head.used (prefixes_of last head.count (body_of head.used bytes))
  ended ← ensure (length entries.1 == 0) 4
  Ok entries.0

-- the prefix deletes of a block, the first of which stands behind the last one of the block before
unfoldable pub prefix_block_of : Option (List ℕ) → List ℕ → Result (List PrefixEntry) ℕ
prefix_block_of last bytes = do
  head ← plain_header_of prefix_kind bytes
  prefixes_with last head bytes

-- ---- keys

abbrev pub key_entry : ℕ → List ℕ → Option ValuePlace → KeyEntry
key_entry number key value = record { number = number; key = key; value = value }

abbrev pub value_place : ℕ → ℕ → ℕ → ValuePlace
value_place block offset len = record { block = block; offset = offset; len = len }

-- where a value stands
unfoldable pub place_of : List ℕ → Result (ValuePlace × List ℕ) ℕ
place_of bytes = do
  block ← number_of 4 bytes
  offset ← number_of 4 block.1
  len ← number_of 4 offset.1
  Ok (value_place block.0 offset.0 len.0, len.1)

-- a put's place; a deletion has none
unfoldable pub place_after : ℕ → List ℕ → Result (Option ValuePlace × List ℕ) ℕ
place_after kind bytes =
    if kind == 1 then place_of bytes >>= (λ place. Ok (Some place.0, place.1)) else Ok (None, bytes)

-- a key behind the last one
unfoldable pub key_of : Option (List ℕ) → List ℕ → Result (KeyEntry × List ℕ) ℕ
key_of last bytes = do
  kind ← number_of 1 bytes
  known ← ensure ((kind.0 == 1) || (kind.0 == 2)) (length bytes)
  number ← number_of 8 kind.1
  name ← name_of 2 longest_key last (length bytes) number.1
  place ← place_after kind.0 name.1
  Ok (key_entry number.0 name.0 place.0, place.1)

-- so many keys behind the last one
unfoldable pub keys_of : Option (List ℕ) → ℕ → List ℕ → Result (List KeyEntry × List ℕ) ℕ
keys_of last zero bytes = Ok ([], bytes)
keys_of last (suc n) bytes = do
  first ← key_of last bytes
  others ← keys_of (Some first.0.key) n first.1
  Ok (first.0 ∷ others.0, others.1)

-- Zeros alone. The first byte that is none is refused at itself.
abbrev pub zeros_of : List ℕ → Result (Unit {0}) ℕ
zeros_of [] = Ok tt
zeros_of (byte ∷ bytes) = if byte == 0 then zeros_of bytes else Err (length (byte ∷ bytes))

-- the keys of a page, which are its whole bytes
unfoldable pub page_of : Option (List ℕ) → List ℕ → Result (List KeyEntry) ℕ
page_of last bytes = do
  count ← number_of 2 bytes
  some ← ensure (nat_lt 0 count.0) (length bytes)
  keys ← keys_of last count.0 count.1
  clean ← zeros_of keys.1
  Ok keys.0

-- the last key of these, or else the one before them
abbrev pub last_key : Option (List ℕ) → List KeyEntry → Option (List ℕ)
last_key last [] = last
last_key last (entry ∷ entries) = last_key (Some entry.key) entries

-- so many pages, the first of which begins at this place; a refusal is a place
unfoldable pub pages_of : ℕ → Option (List ℕ) → ℕ → List ℕ → Result (List (List KeyEntry)) ℕ
pages_of start last zero bytes = Ok []
pages_of start last (suc n) bytes = do
  page ← placed (start + page_size) (page_of last (take page_size bytes))
  others ← pages_of (start + page_size) (last_key last page) n (drop page_size bytes)
  Ok (page ∷ others)

-- how many keys a page says that it has
abbrev pub count_in : List ℕ → ℕ
count_in page = big_number 2 (take 2 page)

-- how many keys so many pages say that they have
abbrev pub count_all : ℕ → List ℕ → ℕ
count_all zero pages = 0
count_all (suc n) pages = count_in pages + count_all n (drop page_size pages)

-- The numbers behind so many pages, where so many keys stand before the first of them. One that does not agree is
-- refused at itself.
unfoldable pub counts_of : ℕ → ℕ → List ℕ → List ℕ → Result (Unit {0}) ℕ
counts_of before zero pages bytes = Ok tt
counts_of before (suc n) pages bytes = do
  number ← number_of 4 bytes
  agrees ← ensure (number.0 == before) (length bytes)
  counts_of (before + count_in pages) n (drop page_size pages) number.1

-- The header of a block of keys. Used bytes that the pages do not make are refused at the used bytes, and a number of
-- entries that the pages do not make at itself, before any page.
unfoldable pub key_header_of : List ℕ → Result BlockHeader ℕ
key_header_of bytes = do
  head ← header_of key_kind bytes
  agrees ← ensure (head.used == header_size + page_cost * head.pages) 4
  some ← ensure (nat_lt 0 head.count && head.count == count_all head.pages (drop header_size bytes)) 8
  Ok head

-- The keys of a block by its pages, the first of which stands behind the last key of the block before, or the place of
-- the first refused field. What stands behind the used bytes is not read.
unfoldable pub key_block_of : Option (List ℕ) → List ℕ → Result (List (List KeyEntry)) ℕ
key_block_of last bytes = do
  head ← key_header_of bytes
  pages ← pages_of header_size last head.pages (body_of head.used bytes)
  counted ← placed head.used (counts_of 0 head.pages (body_of head.used bytes) (drop (page_size * head.pages) (body_of head.used bytes)))
  Ok pages
