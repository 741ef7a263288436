-- The sources of rows that a merge over a store of a view has: its rows in each layer, and all sets of its tree.
use Rattle.std.specs.Prelude.{◌≡◌, ℕ, List, ◌++◌, map, flat_map}
use Rattle.hse_rows.specs.declared.row.Row.{Row}
use Rattle.row_laws.specs.Next.{OwnFalls}
use Rattle.row_laws.specs.Sources.{all_rows}
use Rattle.ingest_tree.specs.declared.store_row.StoreRow.{StoreRow}
use Rattle.ingest_tree.specs.Rows.{rows_in}
use Rattle.cn_tree.specs.Tree.{TreeState, TreeNode, AreNodes}
use Rattle.view.specs.declared.view_store.ViewStore.{ViewStore}
use Rattle.view.specs.Means.{store_rows, IsUnder}

module _ {R : Type 0} (rows : R → List Row) where
  -- the sets of all nodes, in the order of their paths
  abbrev pub tree_sets : TreeState R → List R
  tree_sets tree = flat_map (λ (node : TreeNode R). node.sets) tree.nodes

  -- nearest first
  abbrev pub sources_of : List (List StoreRow) → ViewStore R → List (List Row)
  sources_of layers store = map (rows_in store.id.0) layers ++ map rows (tree_sets store.tree)

module _ (R : Type 0) (rows : R → List Row) where
  -- Together they are the store's rows.
  abbrev pub SourcesAreRows : Type 0
  SourcesAreRows = (layers : List (List StoreRow)) (store : ViewStore R) → all_rows (sources_of rows layers store) ≡ store_rows rows layers store

  -- From source to source the numbers of each key's own rows fall.
  abbrev pub SourcesFall : Type 0
  SourcesFall =
      (layers : List (List StoreRow)) (store : ViewStore R) → IsUnder rows layers store → AreNodes store.tree.nodes
      → (key : List ℕ) → OwnFalls key (sources_of rows layers store)
