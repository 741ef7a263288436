-- The prefix deletes of several sources, as entries of a list.
use Rattle.std.specs.Prelude.{ℕ, ◌==◌, Bool, List, []}
use Rattle.std.specs.List.{fold}
use Rattle.hse_rows.specs.declared.row.Row.{Row}
use Rattle.hse_rows.specs.declared.change.Change.{Change}
use Rattle.hse_rows.specs.declared.change.Change.TheVariants.{Put, Del, PDel}
use Rattle.hse_rows.specs.writes.NormalForm.{rank}
use Rattle.row_laws.specs.Sources.{all_rows}
use Rattle.prefix_delete.specs.declared.entry.Entry.{Entry}
use Rattle.prefix_delete.specs.Prefixes.{entry_of, with_entry}

-- the entries with one more where the change is a prefix delete
abbrev pub with_change : List Entry → ℕ → Change → List Entry
with_change entries number (PDel prefix) = with_entry entries (entry_of prefix number)
with_change entries number (Put key bytes) = entries
with_change entries number (Del key) = entries

abbrev pub with_delete : List Entry → Row → List Entry
with_delete entries row = with_change entries row.number row.change

-- the entries with the prefix deletes of rows, one after another
abbrev pub with_deletes : List Entry → List Row → List Entry
with_deletes entries rows = fold with_delete entries rows

-- of each prefix of all sources the greatest number
unfoldable pub all_deletes : List (List Row) → List Entry
all_deletes sources = with_deletes [] (all_rows sources)

abbrev pub is_delete : Row → Bool
is_delete row = rank row.change == 0
