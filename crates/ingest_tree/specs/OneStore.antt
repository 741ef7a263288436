-- What the rows of one store keep.
use Rattle.std.specs.Prelude.{◌≡◌, List, length}
use Rattle.std.specs.List.{filter}
use Rattle.std.specs.List.Sorted.{IsStrictlySortedBy}
use Rattle.std.specs.Ordering.{is_lt}
use Rattle.hse_rows.specs.declared.row.Row.{Row}
use Rattle.ingest_tree.specs.declared.store_rows.StoreRows.TheInside.{Inside}
use Rattle.ingest_tree.specs.Rows.{store_row_cmp, rows_in}
use Rattle.ingest_tree.specs.StoreRows.{first_at}

abbrev pub rows_of : Inside → List Row
rows_of set = rows_in set.store.0 set.tree

pub record IsOneStore (set : Inside) : Type 0 where
  pub rising : IsStrictlySortedBy store_row_cmp set.tree
  -- how many rows stand before the store's
  pub first : set.first ≡ length (filter (λ row. is_lt (store_row_cmp row (first_at set.store.0))) set.tree)
  pub count : set.count ≡ length (rows_in set.store.0 set.tree)
