-- Laws of views, each the clause of a function of `src/laws.rt`.
use Rattle.std.specs.Prelude.{◌≡◌, ℕ, ◌<◌, ◌≤◌, Bool, List, [], ◌∷◌, ◌++◌, Some}
use Rattle.std.specs.List.{AllByRecursion, find}
use Rattle.std.specs.List.Sorted.{IsStrictlySortedBy}
use Rattle.hse_rows.specs.declared.row.Row.{Row}
use Rattle.hse_rows.specs.declared.write.Write.{Write}
use Rattle.hse_rows.specs.writes.NormalForm.{normal_form, write_cmp}
use Rattle.hse_rows.specs.rows.Meaning.{contents_of}
use Rattle.hse_rows.specs.states.State.{contents_after, contents_after_all}
use Rattle.hse_rows.specs.states.History.{commits, creates, drops, happened}
use Rattle.row_laws.specs.Step.{AppliesLast}
use Rattle.ingest_tree.specs.declared.store_row.StoreRow.{StoreRow}
use Rattle.ingest_tree.specs.Rows.{store_row, row_numbered, rows_in, rows_with}
use Rattle.view.specs.declared.view_store.ViewStore.{ViewStore}
use Rattle.view.specs.Views.{ViewState, with_active}
use Rattle.view.specs.Means.{store_rows, state_of, IsView, IsUnder}
use Rattle.view.specs.Commits.{with_writes, committed, frozen}
use Rattle.view.specs.Stores.{with_store, without_store, IsCreated}

-- No row of a store of a view is newer than the view.
abbrev pub StoresAreNotNewer : (R : Type 0) → (R → List Row) → Type 0
StoresAreNotNewer R rows =
    (view : ViewState R) (is_wanted : ViewStore R → Bool) (store : ViewStore R) → IsView rows view
    → find is_wanted view.stores ≡ Some store
    → AllByRecursion (λ (row : Row). row.number ≤ view.number) (store_rows rows view.layers store)

-- A layer of rows that are newer than the view goes over its stores.
abbrev pub NewerLayersGoOver : (R : Type 0) → (R → List Row) → Type 0
NewerLayersGoOver R rows =
    (view : ViewState R) (is_wanted : ViewStore R → Bool) (store : ViewStore R) (own : List StoreRow) → IsView rows view
    → find is_wanted view.stores ≡ Some store
    → AllByRecursion (λ (row : StoreRow). view.number < row.row.number) own
    → IsUnder rows (own ∷ view.layers) store

-- A row that applies last in a layer, in front of older rows, does to a store what its write does.
abbrev pub LayersTakeRows : Type 0
LayersTakeRows =
    (layer : List StoreRow) (write : Write) (number id : ℕ) (behind : List Row)
    → AppliesLast (rows_in id layer) (row_numbered number write.change)
    → AllByRecursion (λ (row : Row). row.number < number) behind
    → contents_of (rows_in id (rows_with layer (store_row write.store (row_numbered number write.change))) ++ behind)
    ≡ contents_after id (contents_of (rows_in id layer ++ behind)) write

-- The rows of writes in the order of a normal form, all of one number, in a layer of older rows and in front of older ones: they do
-- to a store what the writes do.
abbrev pub LayersTakeWrites : Type 0
LayersTakeWrites =
    (layer : List StoreRow) (writes : List Write) (number id : ℕ) (behind : List Row) → IsStrictlySortedBy write_cmp writes
    → AllByRecursion (λ (row : StoreRow). row.row.number < number) layer
    → AllByRecursion (λ (row : Row). row.number < number) behind
    → contents_of (rows_in id (with_writes number layer writes) ++ behind)
    ≡ contents_after_all id (contents_of (rows_in id layer ++ behind)) writes

-- The rows of a commit in the active layer do to a view's state what the commit does.
abbrev pub CommitsHappen : (R : Type 0) → (R → List Row) → Type 0
CommitsHappen R rows =
    (view : ViewState R) (writes : List Write) → IsView rows view
    → IsView rows (committed view (normal_form writes))
    × (state_of rows (committed view (normal_form writes)) ≡ happened (state_of rows view) (commits (normal_form writes)))

-- A freeze keeps the state. In between, where the active layer is empty and the frozen ones are the old ones, stands a view.
abbrev pub FreezesKeepStates : (R : Type 0) → (R → List Row) → Type 0
FreezesKeepStates R rows =
    (view : ViewState R) → IsView rows view
    → IsView rows (with_active view view.number []) × IsView rows (frozen view)
    × (state_of rows (frozen view) ≡ state_of rows view)

-- A created store, and one that is dropped, do to a view's state what the creation and the drop do.
pub record StoresComeAndGo (R : Type 0) (rows : R → List Row) : Type 0 where
  pub come :
      (view : ViewState R) (store : ViewStore R) → IsView rows view → IsCreated view store
      → IsView rows (with_store view store)
      × (state_of rows (with_store view store) ≡ happened (state_of rows view) (creates store.name store.mode store.prefix))
  pub go :
      (view : ViewState R) (id : ℕ) → IsView rows view
      → IsView rows (without_store view id)
      × (state_of rows (without_store view id) ≡ happened (state_of rows view) (drops id))
