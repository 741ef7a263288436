-- What the blocks of a set hold together.
use Rattle.std.specs.Prelude.{◌≡◌, ◌<◌, ◌≤◌, ◌^◌, ℕ, ◌+◌, List, length, map, drop, Result, Ok}
use Rattle.std.specs.Arc.{arc_value}
use Rattle.hse_rows.specs.declared.row.Row.{Row}
use Rattle.kvset.specs.declared.parts.Parts.{Parts}
use Rattle.kvset.specs.Keys.{all_keys, AreParts}
use Rattle.kvset.specs.declared.values.Values.{Values}
use Rattle.kvset.specs.declared.values.Values.TheVariants.{Unread, Open}
use Rattle.kvset.specs.Reading.{Contents, slots_of, values_of}
use Rattle.kvset.specs.Rows.{set_rows, AreMet}

-- the values of a set, block by block
abbrev pub values_in : Parts → List (List (List ℕ))
values_in parts = map arc_value parts.values.items

-- the slots of its values stand behind the others
abbrev pub own_value_slots : Parts → List ℕ
own_value_slots parts = drop (parts.prefix_blocks + length parts.keys.items) parts.slots.items

-- the slots and the values of blocks that are read or open
abbrev pub slots_given : Values → List ℕ
slots_given (Unread slot blocks) = slots_of blocks.items
slots_given (Open slots blocks) = slots.items

abbrev pub values_given : Values → Result (List (List (List ℕ))) (ℕ × ℕ)
values_given (Unread slot blocks) = values_of slot blocks.items
values_given (Open slots blocks) = Ok (map arc_value blocks.items)

-- each open block stands in a slot
abbrev pub AreSlotted : Values → Type 0
AreSlotted (Unread slot blocks) = Unit {0}
AreSlotted (Open slots blocks) = length slots.items ≡ length blocks.items

abbrev pub rows_in : Parts → List Row
rows_in parts = set_rows parts.prefixes (all_keys parts.keys.items) (values_in parts)

-- The keys stand in order, each put's value is there, and all can be counted.
pub record IsSet (parts : Parts) : Type 0 where
  pub keys : AreParts parts.keys.items
  pub counted : parts.count ≡ length (all_keys parts.keys.items)
  pub met : AreMet (values_in parts) (all_keys parts.keys.items)
  pub few : length parts.prefixes ≤ 2 ^ 62
  pub placed : length parts.slots.items ≡ (parts.prefix_blocks + length parts.keys.items) + length parts.values.items
  pub few_blocks : (length parts.keys.items < 2 ^ 32) × (length parts.values.items < 2 ^ 32)

-- what the blocks hold
abbrev pub contents_of : Parts → Contents
contents_of parts = record {
  slots = parts.slots.items;
  shape = (parts.prefix_blocks, length parts.keys.items, length parts.values.items);
  prefixes = parts.prefixes;
  keys = all_keys parts.keys.items;
  values = values_in parts;
}

abbrev pub contents_rows : Contents → List Row
contents_rows contents = set_rows contents.prefixes contents.keys contents.values
