-- What a view is to its callers: a number, stores with their trees, and layers of rows over all of them.
use Rattle.std.specs.Prelude.{ℕ, List, ◌∷◌, ◌++◌, take, drop, Option, Some, None}
use Rattle.ingest_tree.specs.declared.store_row.StoreRow.{StoreRow}
use Rattle.view.specs.declared.view_store.ViewStore.{ViewStore}

pub record ViewState (R : Type 0) : Type 0 where
  -- the last number of its state
  pub number : ℕ
  pub stores : List (ViewStore R)
  -- the active layer, and then the frozen ones, newest first
  pub layers : List (List StoreRow)

-- what lies behind the active layer
pub record RestState (R : Type 0) : Type 0 where
  pub stores : List (ViewStore R)
  pub frozen : List (List StoreRow)

abbrev pub rest_of : {R : Type 0} → List (ViewStore R) → List (List StoreRow) → RestState R
rest_of stores frozen = record { stores = stores; frozen = frozen }

abbrev pub view_of : {R : Type 0} → ℕ → List StoreRow → RestState R → ViewState R
view_of number active rest = record { number = number; stores = rest.stores; layers = active ∷ rest.frozen }

-- a view with another active layer and number
abbrev pub with_active : {R : Type 0} → ViewState R → ℕ → List StoreRow → ViewState R
with_active view number active = record { number = number; stores = view.stores; layers = active ∷ drop 1 view.layers }

-- a view with the stores and the frozen layers of another
abbrev pub with_rest : {R : Type 0} → ViewState R → ViewState R → ViewState R
with_rest view after = record { number = view.number; stores = after.stores; layers = take 1 view.layers ++ drop 1 after.layers }

-- layers with one more in front, where there is one
abbrev pub layers_with : Option (List StoreRow) → List (List StoreRow) → List (List StoreRow)
layers_with None layers = layers
layers_with (Some own) layers = own ∷ layers
