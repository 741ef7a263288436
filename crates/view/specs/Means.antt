-- The state that a view means, and the condition that it has one.
use Rattle.std.specs.Prelude.{◌≡◌, ◌≤◌, ◌==◌, false, List, [], ◌∷◌, ◌++◌, map, flat_map}
use Rattle.std.specs.List.{AllByRecursion, list_any}
use Rattle.hse_rows.specs.declared.row.Row.{Row}
use Rattle.hse_rows.specs.writes.NormalForm.{same}
use Rattle.hse_rows.specs.rows.Meaning.{contents_of}
use Rattle.hse_rows.specs.states.State.{Store, State}
use Rattle.row_laws.specs.Sources.{all_rows, AreLayersOver}
use Rattle.ingest_tree.specs.declared.store_row.StoreRow.{StoreRow}
use Rattle.ingest_tree.specs.Rows.{rows_in}
use Rattle.view.specs.declared.view_store.ViewStore.{ViewStore}
use Rattle.view.specs.Views.{ViewState}
use Rattle.view.specs.Routed.{tree_rows, IsRouted}

-- the rows of all stores in a layer
abbrev pub layer_rows : List StoreRow → List Row
layer_rows layer = map (λ (row : StoreRow). row.row) layer

-- no two stores have one name or one id
abbrev pub AreApart : {R : Type 0} → List (ViewStore R) → Type 0
AreApart [] = Unit {0}
AreApart (store ∷ stores) =
    (list_any (λ other. same other.name store.name) stores ≡ false)
    × (list_any (λ other. other.id.0 == store.id.0) stores ≡ false) × AreApart stores

module _ {R : Type 0} (rows : R → List Row) where
  -- the rows of a store in all layers and all sets
  abbrev pub store_rows : List (List StoreRow) → ViewStore R → List Row
  store_rows layers store = all_rows (map (rows_in store.id.0) layers) ++ tree_rows rows store.tree

  abbrev pub store_in : List (List StoreRow) → ViewStore R → Store
  store_in layers store = record {
    id = store.id.0;
    name = store.name;
    mode = store.mode;
    prefix_length = store.prefix;
    contents = contents_of (store_rows layers store);
  }

  -- The state that a view means: its stores in the order in which they were given, each with what its rows mean.
  abbrev pub state_of : ViewState R → State
  state_of view = record { number = view.number; stores = map (store_in view.layers) view.stores }

  -- the rows of all trees
  abbrev pub set_rows : List (ViewStore R) → List Row
  set_rows stores = flat_map (λ store. tree_rows rows store.tree) stores

  -- No two stores have one name or id, no row is newer than the view, each layer's rows are newer than those of farther
  -- layers and of all sets, and each store's sets stand where a key looks for them.
  pub record IsView (view : ViewState R) : Type 0 where
    pub apart : AreApart view.stores
    pub numbers :
        AllByRecursion (λ (row : Row). row.number ≤ view.number) (all_rows (map layer_rows view.layers) ++ set_rows view.stores)
    pub layers : AreLayersOver (set_rows view.stores) (map layer_rows view.layers)
    pub routed : AllByRecursion (λ (store : ViewStore R). IsRouted rows store.prefix store.tree) view.stores

  -- a store under the layers of its view
  pub record IsUnder (layers : List (List StoreRow)) (store : ViewStore R) : Type 0 where
    pub over : AreLayersOver (tree_rows rows store.tree) (map (rows_in store.id.0) layers)
    pub routed : IsRouted rows store.prefix store.tree
