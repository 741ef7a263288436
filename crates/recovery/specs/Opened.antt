-- The view that an opening gives: the live stores without sets, and one layer over them.
use Rattle.std.specs.Prelude.{ℕ, List, [], ◌∷◌, map}
use Rattle.ingest_tree.specs.declared.store_row.StoreRow.{StoreRow}
use Rattle.manifest.specs.Metadata.{LiveStore}
use Rattle.view.specs.Views.{ViewState}
use Rattle.view.specs.declared.view_store.ViewStore.{ViewStore}

-- a live store of a view, without sets
abbrev pub empty_store : (R : Type 0) → LiveStore → ViewStore R
empty_store R store = record {
  name = store.name;
  id = record { 0 = store.id };
  mode = store.mode;
  prefix = store.prefix_length;
  tree = record { prefix_length = store.prefix_length; nodes = [] };
}

abbrev pub opened_view : (R : Type 0) → ℕ → List LiveStore → List StoreRow → ViewState R
opened_view R number stores layer =
    record { number = number; stores = map (empty_store R) stores; layers = layer ∷ [] }
