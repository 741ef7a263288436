-- The rows of a set: its prefix deletes, then its keys with the values that they name.
use Rattle.std.specs.Prelude.{◌≡◌, ℕ, ◌-◌, true, Bool, nat_lt, length, if◌then◌else◌, List, [], ◌++◌, map, slice_get, Option, Some, None, is_some}
use Rattle.std.specs.List.{AllByRecursion}
use Rattle.hse_rows.specs.declared.change.Change.{Change}
use Rattle.hse_rows.specs.declared.change.Change.TheVariants.{Put, Del}
use Rattle.hse_rows.specs.declared.row.Row.{Row}
use Rattle.hse_fields.specs.declared.block.ValuePlace.{ValuePlace}
use Rattle.hse_fields.specs.BlockText.{KeyEntry, value_at}
use Rattle.prefix_delete.specs.declared.entry.Entry.{Entry}
use Rattle.prefix_delete.specs.Prefixes.{rows_of}

-- the value at a place of a block, if there is such a block
abbrev pub value_in : Option (List (List ℕ)) → ValuePlace → Option (List ℕ)
value_in None place = None
value_in (Some block) place = value_at block place.offset place.len

-- the value at a place among the blocks of values of a set
abbrev pub value_of : List (List (List ℕ)) → ValuePlace → Option (List ℕ)
value_of values place = value_in (slice_get values place.block) place

abbrev pub bytes_in : Option (List ℕ) → List ℕ
bytes_in None = []
bytes_in (Some bytes) = bytes

-- a put has the value at its place, a deletion none
abbrev pub change_of_key : List (List (List ℕ)) → List ℕ → Option ValuePlace → Change
change_of_key values key None = Del key
change_of_key values key (Some place) = Put key (bytes_in (value_of values place))

abbrev pub row_of_key : List (List (List ℕ)) → KeyEntry → Row
row_of_key values entry = record { number = entry.number; change = change_of_key values entry.key entry.value }

-- the row of an entry, if there is one
abbrev pub row_found : List (List (List ℕ)) → Option KeyEntry → Option Row
row_found values None = None
row_found values (Some entry) = Some (row_of_key values entry)

abbrev pub set_rows : List Entry → List KeyEntry → List (List (List ℕ)) → List Row
set_rows prefixes keys values = rows_of prefixes ++ map (row_of_key values) keys

-- where the value of the row at this place stands; there is none where the row is no put
abbrev pub place_in : Option KeyEntry → Option ValuePlace
place_in None = None
place_in (Some entry) = entry.value

abbrev pub place_at : List Entry → List KeyEntry → ℕ → Option ValuePlace
place_at prefixes keys at =
    if nat_lt at (length prefixes) then None else place_in (slice_get keys (at - length prefixes))

-- a put's value is there
abbrev pub is_met : List (List (List ℕ)) → Option ValuePlace → Bool
is_met values None = true
is_met values (Some place) = is_some (value_of values place)

abbrev pub AreMet : List (List (List ℕ)) → List KeyEntry → Type 0
AreMet values keys = AllByRecursion (λ (entry : KeyEntry). is_met values entry.value ≡ true) keys
