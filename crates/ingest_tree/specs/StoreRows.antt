-- The rows of one store.
use Rattle.std.specs.Prelude.{ℕ, List, []}
use Rattle.hse_rows.specs.declared.change.Change.TheVariants.{Del, PDel}
use Rattle.ingest_tree.specs.declared.store_row.StoreRow.{StoreRow}
use Rattle.ingest_tree.specs.Rows.{row_numbered, store_row}

-- before all rows of the store of this id
abbrev pub first_at : ℕ → StoreRow
first_at id = store_row (record { 0 = id }) (row_numbered 0 (PDel []))

-- where a row of this key stands
abbrev pub key_at : ℕ → List ℕ → StoreRow
key_at id key = store_row (record { 0 = id }) (row_numbered 0 (Del key))
