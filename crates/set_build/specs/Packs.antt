-- What a packer holds of the rows that were pushed, and which may come next.
use Rattle.std.specs.Prelude.{◌≡◌, ℕ, ◌^◌, ◌+◌, ◌≤◌, true, false, cond, List, ◌∷◌, [], ◌++◌, length, map, Option, Vec}
use Rattle.std.specs.List.{filter}
use Rattle.std.specs.declared.alloc.Global.{Global}
use Rattle.std.specs.Option.{IsSome}
use Rattle.hse_rows.specs.declared.row.Row.{Row}
use Rattle.hse_rows.specs.rows.Packing.{header_bytes, is_prefix, has_value, value_entry_bytes, prefix_blocks, key_blocks, value_blocks}
use Rattle.hse_rows.specs.rows.RowSets.{AreRows}
use Rattle.hse_rows.specs.writes.Change.{target}
use Rattle.hse_fields.specs.declared.block.ValuePlace.{ValuePlace}
use Rattle.prefix_delete.specs.declared.entry.Entry.{Entry}
use Rattle.prefix_delete.specs.Blocks.{in_block}
use Rattle.prefix_delete.specs.Prefixes.{entry_of}
use Rattle.set_build.specs.declared.packer.Packer.{Packer}
use Rattle.set_build.specs.declared.packed.Packed.{Packed}
use Rattle.set_build.specs.SetText.{Pushed, SetText, prefix_bytes, all_places, key_entries, key_blocks_of, values_by_block}
use Rattle.set_build.specs.Builders.{HoldValues, HoldKeys, OpenBlock, all_pages}

abbrev pub prefix_in : Row → Entry
prefix_in row = entry_of (target row.change) row.number

abbrev pub prefixes_in : List Row → List Entry
prefixes_in rows = map prefix_in (filter (λ row. is_prefix row.change) rows)

-- how many bytes an entry takes of a block
abbrev pub entry_size : Entry → ℕ
entry_size entry = prefix_bytes (in_block entry)

abbrev pub puts_in : List Row → List Row
puts_in rows = filter (λ row. has_value row.change) rows

-- The packer holds these rows.
pub record Packs (p : Pushed) (packer : Packer) : Type 0 where
  pub slot : packer.slot ≡ p.slot_size
  pub large : 2 ^ 16 ≤ p.slot_size
  pub small : p.slot_size ≤ 2 ^ 25
  pub kind : packer.writes_values ≡ p.values
  pub rows : AreRows p.rows
  pub prefixes : packer.prefixes ≡ prefixes_in p.rows
  pub placed : length (all_places p) ≡ length (puts_in p.rows)
  pub blocks : List OpenBlock
  pub blocks_are : map all_pages blocks ≡ key_blocks_of p.slot_size (key_entries p)
  pub keys : HoldKeys p.slot_size blocks packer.keys.items
  pub values : HoldValues p.slot_size (values_by_block p) packer.values.items
  pub few : length packer.values.items ≤ 2 ^ 32

-- The row stands behind the others in the order of a set; its value, if it is written, fits into a block; and else it has
-- a place.
pub record MayFollow (p : Pushed) (row : Row) (place : Option ValuePlace) : Type 0 where
  pub rows : AreRows (p.rows ++ row ∷ [])
  pub fits : p.values ≡ true → header_bytes + value_entry_bytes row.change ≤ p.slot_size
  pub has_place : p.values ≡ false → has_value row.change ≡ true → IsSome place

-- the bytes of blocks
abbrev pub bytes_of : List (Vec ℕ Global) → List (List ℕ)
bytes_of blocks = map (λ block. block.items) blocks

-- the blocks, as lists
abbrev pub seen : Packed → SetText
seen packed = record {
  prefixes = bytes_of packed.prefixes.items;
  keys = bytes_of packed.keys.items;
  values = bytes_of packed.values.items;
}

-- There are as many blocks as the rows fill, and four bytes can number those of values.
pub record AreCounted (p : Pushed) (packed : Packed) : Type 0 where
  pub prefixes : length packed.prefixes.items ≡ length (prefix_blocks p.slot_size p.rows)
  pub keys : length packed.keys.items ≡ length (key_blocks p.slot_size p.rows)
  pub values : length packed.values.items ≡ cond p.values (length (value_blocks p.slot_size p.rows)) 0
  pub few : length packed.values.items ≤ 2 ^ 32
