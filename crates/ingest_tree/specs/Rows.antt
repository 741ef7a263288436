-- Rows of several stores in one order.
use Rattle.std.specs.Prelude.{ℕ, ◌==◌, List, length, map, Option}
use Rattle.std.specs.List.{filter, find}
use Rattle.std.specs.List.Sorted.{IsStrictlySortedBy}
use Rattle.std.specs.declared.cmp.Ordering.{Ordering}
use Rattle.std.specs.Ordering.{nat_cmp, is_eq, is_lt, on, then_cmp}
use Rattle.hse_rows.specs.declared.row.Row.{Row}
use Rattle.hse_rows.specs.declared.row.RowRef.{RowRef}
use Rattle.hse_rows.specs.declared.store.StoreId.{StoreId}
use Rattle.hse_rows.specs.declared.change.Change.{Change}
use Rattle.hse_rows.specs.writes.Change.{change_of}
use Rattle.hse_rows.specs.rows.Newest.{row_cmp}
use Rattle.hse_rows.specs.rows.RowSets.{row_of}
use Rattle.sorted_lists.specs.Places.{with_one}
use Rattle.ingest_tree.specs.declared.store_row.StoreRow.{StoreRow}
use Rattle.ingest_tree.specs.declared.store_row.Spot.{Spot}

-- by store id, and then as the rows of a set
abbrev pub store_row_cmp : StoreRow → StoreRow → Ordering
store_row_cmp =
    then_cmp (on (λ (row : StoreRow). row.store.0) nat_cmp)
    (on (λ (row : StoreRow). row.row) row_cmp)

-- the rows of the store of this id
abbrev pub rows_in : ℕ → List StoreRow → List Row
rows_in id rows = map (λ (row : StoreRow). row.row) (filter (λ (row : StoreRow). row.store.0 == id) rows)

abbrev pub store_row : StoreId → Row → StoreRow
store_row store row = record { store = store; row = row }

abbrev pub row_numbered : ℕ → Change → Row
row_numbered number change = record { number = number; change = change }

-- a row that stands where a spot is
abbrev pub row_at : Spot → StoreRow
row_at spot = store_row (record { 0 = spot.id }) (row_numbered 0 (change_of spot.change))

-- the row that an item is
abbrev pub item_of : StoreId × RowRef → StoreRow
item_of item = store_row item.0 (row_of item.1)

-- rows in order, each key and each prefix of a store once
abbrev pub AreRising : List StoreRow → Type 0
AreRising rows = IsStrictlySortedBy store_row_cmp rows

-- the rows with one more, in place of the one of its key or prefix
abbrev pub rows_with : List StoreRow → StoreRow → List StoreRow
rows_with rows row = with_one store_row_cmp rows row

-- the row that stands where this one would, and how many stand before
abbrev pub found_at : StoreRow → List StoreRow → Option StoreRow
found_at spot rows = find (λ row. is_eq (store_row_cmp row spot)) rows

abbrev pub count_before : StoreRow → List StoreRow → ℕ
count_before spot rows = length (filter (λ row. is_lt (store_row_cmp row spot)) rows)
