-- What a read finds in the state that a transaction reads.
use Rattle.std.proofs.Common.{◌≡◌, ℕ, ◌<◌, true, false, cond, List, [], ◌∷◌, ◌++◌, map, Option, Some, None, refl, ap, ◌∙◌, append_assoc}
use Rattle.std.specs.List.{AllByRecursion, find}
use Rattle.std.specs.Option.{option_map}
use Rattle.hse_rows.specs.declared.row.Row.{Row}
use Rattle.hse_rows.specs.declared.write.Write.{Write}
use Rattle.hse_rows.specs.writes.NormalForm.{same}
use Rattle.hse_rows.specs.rows.Meaning.{contents_of}
use Rattle.hse_rows.specs.states.State.{Store, store_named, contents_after_all}
use Rattle.hse_rows.specs.laws.Holding.{applied_all-stores, written_all}
use Rattle.row_laws.specs.Sources.{all_rows}
use Rattle.ingest_tree.specs.declared.store_row.StoreRow.{StoreRow}
use Rattle.ingest_tree.specs.Rows.{rows_in}
use Rattle.view.specs.declared.view_store.ViewStore.{ViewStore}
use Rattle.view.specs.Laws.{StoresAreNotNewer, NewerLayersGoOver}
use Rattle.view.specs.Routed.{tree_rows}
use Rattle.view.specs.Views.{ViewState, layers_with}
use Rattle.view.specs.Means.{state_of, store_in, store_rows, IsView, IsUnder}
use Rattle.transactions.specs.Txns.{TxnKept, own_rows, reads, MeansWrites}

module _ {R : Type 0} (rows : R → List Row) where
  -- what a store of the view holds with these writes
  abbrev pub read_store : TxnKept R → ViewStore R → Store
  read_store txn store = written_all txn.writes (store_in rows txn.view.layers store)

  pub named-read : (txn : TxnKept R) (name : List ℕ)
      → store_named (reads rows txn) name ≡ option_map (read_store txn) (find (λ s. same s.name name) txn.view.stores)
  named-read txn name =
      ap (λ s. store_named s name) (applied_all-stores (state_of rows txn.view) txn.writes)
      ∙ by txn.view.stores
    where
      by : (stores : List (ViewStore R))
          → find (λ (s : Store). same s.name name) (map (written_all txn.writes) (map (store_in rows txn.view.layers) stores))
          ≡ option_map (read_store txn) (find (λ s. same s.name name) stores)
      by [] = refl
      by (store ∷ stores) =
          elim (same store.name name)
          as (λ b. cond b (Some (read_store txn store)) (find (λ (s : Store). same s.name name) (map (written_all txn.writes) (map (store_in rows txn.view.layers) stores)))
          ≡ option_map (read_store txn) (cond b (Some store) (find (λ s. same s.name name) stores)))
          [ true ↦ refl | false ↦ by stores ]

  rows-with : (own : Option (List StoreRow)) (layers : List (List StoreRow)) (store : ViewStore R)
      → store_rows rows (layers_with own layers) store ≡ rows_in store.id.0 (own_rows own) ++ store_rows rows layers store
  rows-with None layers store = refl
  rows-with (Some own) layers store = append_assoc (rows_in store.id.0 own) (all_rows (map (rows_in store.id.0) layers)) (tree_rows rows store.tree)

  module _ (view : ViewState R) (known : IsView rows view) (store : ViewStore R) (name : List ℕ) (found : find (λ s. same s.name name) view.stores ≡ Some store) where
    -- the own rows go over the store
    pub own-under : (own : Option (List StoreRow)) → NewerLayersGoOver R rows
        → IsUnder rows view.layers store → AllByRecursion (λ (row : StoreRow). view.number < row.row.number) (own_rows own)
        → IsUnder rows (layers_with own view.layers) store
    own-under None law under newer = under
    own-under (Some own) law under newer = law view (λ s. same s.name name) store own known found newer

    -- and mean it with the writes
    pub contents-read : (own : Option (List StoreRow)) (writes : List Write) → StoresAreNotNewer R rows → MeansWrites view.number (own_rows own) writes
        → contents_of (store_rows rows (layers_with own view.layers) store)
        ≡ contents_after_all store.id.0 (contents_of (store_rows rows view.layers store)) writes
    contents-read own writes law means =
        ap contents_of (rows-with own view.layers store)
        ∙ means store.id.0 (store_rows rows view.layers store) (law view (λ s. same s.name name) store known found)
