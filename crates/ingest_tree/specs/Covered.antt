-- The greatest number of a prefix delete that covers a key, by the lengths of prefixes.
use Rattle.std.specs.Prelude.{ℕ, ◌==◌, nat_lt, Bool, ◌&&◌, cond, List, [], ◌∷◌, length, take, Option, Some, None}
use Rattle.hse_rows.specs.declared.change.Change.TheVariants.{PDel}
use Rattle.hse_rows.specs.writes.Change.{target}
use Rattle.hse_rows.specs.rows.Meaning.{is_covering, greater}
use Rattle.ingest_tree.specs.declared.store_row.StoreRow.{StoreRow}
use Rattle.ingest_tree.specs.Rows.{row_numbered, store_row}

-- a prefix delete of the store that covers the key and is shorter than this
abbrev pub is_covering_below : ℕ → List ℕ → ℕ → StoreRow → Bool
is_covering_below id key most r = (r.store.0 == id) && (is_covering key r.row && nat_lt (length (target r.row.change)) most)

-- the greatest number of those
abbrev pub covered_below : ℕ → List ℕ → ℕ → List StoreRow → Option ℕ
covered_below id key most [] = None
covered_below id key most (r ∷ rows) =
    greater (cond (is_covering_below id key most r) (Some r.row.number) None) (covered_below id key most rows)

-- where a prefix delete of the key's first bytes stands
abbrev pub prefix_at : ℕ → List ℕ → ℕ → StoreRow
prefix_at id key n = store_row (record { 0 = id }) (row_numbered 0 (PDel (take n key)))
