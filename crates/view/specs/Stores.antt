-- What a creation and a drop make of a view.
use Rattle.std.specs.Prelude.{◌≡◌, ℕ, ◌+◌, ◌==◌, false, not, List, [], ◌∷◌, ◌++◌}
use Rattle.std.specs.List.{AllByRecursion, filter}
use Rattle.hse_rows.specs.writes.NormalForm.{same}
use Rattle.ingest_tree.specs.declared.store_row.StoreRow.{StoreRow}
use Rattle.ingest_tree.specs.Rows.{rows_in}
use Rattle.view.specs.declared.view_store.ViewStore.{ViewStore}
use Rattle.view.specs.Views.{ViewState}

-- one store more, behind the others
abbrev pub with_store : {R : Type 0} → ViewState R → ViewStore R → ViewState R
with_store view store = record { number = view.number + 1; stores = view.stores ++ store ∷ []; layers = view.layers }

-- without the store of an id
abbrev pub without_store : {R : Type 0} → ViewState R → ℕ → ViewState R
without_store {R} view id = record {
  number = view.number + 1;
  stores = filter (λ (store : ViewStore R). not (store.id.0 == id)) view.stores;
  layers = view.layers;
}

-- A store that was just created: no other has its name or its id, which is the next number, no row is of it, and it has
-- no set.
pub record IsCreated {R : Type 0} (view : ViewState R) (store : ViewStore R) : Type 0 where
  pub numbered : store.id.0 ≡ view.number + 1
  pub named : AllByRecursion (λ (other : ViewStore R). same store.name other.name ≡ false) view.stores
  pub apart : AllByRecursion (λ (other : ViewStore R). (store.id.0 == other.id.0) ≡ false) view.stores
  pub unwritten : AllByRecursion (λ (layer : List StoreRow). rows_in store.id.0 layer ≡ []) view.layers
  pub empty : store.tree ≡ record { prefix_length = store.prefix; nodes = [] }
