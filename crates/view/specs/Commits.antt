-- What a commit and a freeze make of a view.
use Rattle.std.specs.Prelude.{ℕ, ◌+◌, List, [], ◌∷◌}
use Rattle.hse_rows.specs.declared.write.Write.{Write}
use Rattle.ingest_tree.specs.declared.store_row.StoreRow.{StoreRow}
use Rattle.ingest_tree.specs.Rows.{store_row, row_numbered, rows_with}
use Rattle.view.specs.Views.{ViewState, with_active}

-- a layer with a row for each of these writes, all of one number
abbrev pub with_writes : ℕ → List StoreRow → List Write → List StoreRow
with_writes number layer [] = layer
with_writes number layer (write ∷ writes) =
    with_writes number (rows_with layer (store_row write.store (row_numbered number write.change))) writes

-- the active one of these layers
abbrev pub active_of : List (List StoreRow) → List StoreRow
active_of [] = []
active_of (layer ∷ layers) = layer

-- a view with the writes of one more commit in its active layer
abbrev pub committed : {R : Type 0} → ViewState R → List Write → ViewState R
committed view writes =
    with_active view (view.number + 1) (with_writes (view.number + 1) (active_of view.layers) writes)

-- a view with an empty active layer, whose own is the newest frozen one
abbrev pub frozen : {R : Type 0} → ViewState R → ViewState R
frozen view = record { number = view.number; stores = view.stores; layers = [] ∷ view.layers }
