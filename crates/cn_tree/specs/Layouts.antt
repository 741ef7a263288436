-- A tree is the layout of one store, where of each set it is told which rows it has, in how many blocks.
use Rattle.std.specs.Prelude.{◌≡◌, ℕ, List, map}
use Rattle.hse_rows.specs.rows.Layout.{RowsInBlocks, Node, Layout, sets_at as layout_sets_at, with_sets as layout_with_sets, has_children as layout_has_children}
use Rattle.cn_tree.specs.Tree.{TreeNode, sets_at, with_sets, has_children}

abbrev pub node_in : {R : Type 0} → ℕ → (R → RowsInBlocks) → TreeNode R → Node
node_in store blocks node = record { store = store; path = node.path; sets = map blocks node.sets }

abbrev pub layout_of : {R : Type 0} → ℕ → (R → RowsInBlocks) → List (TreeNode R) → Layout
layout_of store blocks nodes = map (node_in store blocks) nodes

-- the sets of a node
abbrev pub SetsAreTheSame : Type 0 → Type 0
SetsAreTheSame R =
    (store : ℕ) (blocks : R → RowsInBlocks) (nodes : List (TreeNode R)) (path : List ℕ)
    → layout_sets_at (layout_of store blocks nodes) store path ≡ map blocks (sets_at nodes path)

-- a node that gets other sets
abbrev pub ChangesAreTheSame : Type 0 → Type 0
ChangesAreTheSame R =
    (store : ℕ) (blocks : R → RowsInBlocks) (nodes : List (TreeNode R)) (path : List ℕ) (sets : List R)
    → layout_with_sets (layout_of store blocks nodes) store path (map blocks sets) ≡ layout_of store blocks (with_sets nodes path sets)

-- whether a node has children
abbrev pub ChildrenAreTheSame : Type 0 → Type 0
ChildrenAreTheSame R =
    (store : ℕ) (blocks : R → RowsInBlocks) (nodes : List (TreeNode R)) (path : List ℕ)
    → layout_has_children (layout_of store blocks nodes) store path ≡ has_children nodes path
