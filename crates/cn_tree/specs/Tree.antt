-- A tree: nodes with sets, in the order of their paths, and what the calls make of them.
use Rattle.std.specs.Prelude.{◌≡◌, ℕ, ◌+◌, ◌-◌, Bool, ◌&&◌, not, List, [], ◌∷◌, ◌++◌, length, take, drop, flat_map, Option, Some, None}
use Rattle.std.specs.List.{AllByRecursion, filter, find, fold, list_any}
use Rattle.std.specs.List.Sorted.{IsStrictlySortedBy}
use Rattle.std.specs.declared.cmp.Ordering.{Ordering}
use Rattle.std.specs.Ordering.{nat_cmp, on}
use Rattle.std.specs.Cmp.Lexicographic.{slice_cmp}
use Rattle.hse_rows.specs.writes.Change.{covers}
use Rattle.hse_rows.specs.writes.Sorted.{placed}
use Rattle.hse_rows.specs.writes.NormalForm.{same}
use Rattle.cn_tree.specs.Path.{path_of, depths}

-- a node's path and its sets, newest first
pub record TreeNode (R : Type 0) : Type 0 where
  pub path : List ℕ
  pub sets : List R

-- the nodes that have sets, by path, of a store whose prefixes have at most so many bytes
pub record TreeState (R : Type 0) : Type 0 where
  pub prefix_length : ℕ
  pub nodes : List (TreeNode R)

-- paths are in the order of their digits, a beginning before its extensions
abbrev pub path_cmp : {R : Type 0} → TreeNode R → TreeNode R → Ordering
path_cmp {R} = on (λ (node : TreeNode R). node.path) (slice_cmp nat_cmp)

abbrev pub HasSets : {R : Type 0} → TreeNode R → Type 0
HasSets node = length node.sets ≡ 0 → ⊥

-- each path stands once, in order, and has sets
pub record AreNodes {R : Type 0} (nodes : List (TreeNode R)) : Type 0 where
  pub rising : IsStrictlySortedBy path_cmp nodes
  pub full : AllByRecursion HasSets nodes

abbrev pub is_at : {R : Type 0} → List ℕ → TreeNode R → Bool
is_at path node = same node.path path

abbrev pub sets_in : {R : Type 0} → Option (TreeNode R) → List R
sets_in None = []
sets_in (Some node) = node.sets

-- the sets of a node
abbrev pub sets_at : {R : Type 0} → List (TreeNode R) → List ℕ → List R
sets_at nodes path = sets_in (find (is_at path) nodes)

abbrev pub node_of : {R : Type 0} → List ℕ → List R → TreeNode R
node_of path sets = record { path = path; sets = sets }

-- The node gets these sets, and leaves where there is none.
abbrev pub with_sets : {R : Type 0} → List (TreeNode R) → List ℕ → List R → List (TreeNode R)
with_sets nodes path [] = filter (λ node. not (is_at path node)) nodes
with_sets nodes path (first ∷ rest) =
    placed path_cmp (filter (λ node. not (is_at path node)) nodes) (node_of path (first ∷ rest))

-- a new set at the front of a node
abbrev pub in_front : {R : Type 0} → List (TreeNode R) → List ℕ → R → List (TreeNode R)
in_front nodes path set = with_sets nodes path (set ∷ sets_at nodes path)

-- other sets in place of as many adjacent ones, with this many older ones behind
abbrev pub in_place_of_run : {R : Type 0} → List R → ℕ → ℕ → List R → List R
in_place_of_run sets older len new = take (length sets - (older + len)) sets ++ new ++ drop (length sets - older) sets

abbrev pub with_run : {R : Type 0} → List (TreeNode R) → List ℕ → ℕ → ℕ → List R → List (TreeNode R)
with_run nodes path older len new = with_sets nodes path (in_place_of_run (sets_at nodes path) older len new)

-- each of these sets at the front of the node of its path
abbrev pub in_fronts : {R : Type 0} → List (TreeNode R) → List (List ℕ × R) → List (TreeNode R)
in_fronts nodes sets = fold (λ n new. in_front n new.0 new.1) nodes sets

-- the sets of the nodes along a path, at these depths
abbrev pub sets_along : {R : Type 0} → List (TreeNode R) → List ℕ → List ℕ → List R
sets_along nodes path depths = flat_map (λ depth. sets_at nodes (take depth path)) depths

-- The sets that a key may stand in: those of the nodes on its path, from the root down, each newest first.
unfoldable pub sets_on : {R : Type 0} → TreeState R → List ℕ → List R
sets_on tree key = sets_along tree.nodes (path_of tree.prefix_length key) depths

-- a node on a longer path that extends this one
abbrev pub has_children : {R : Type 0} → List (TreeNode R) → List ℕ → Bool
has_children nodes path = list_any (λ node. covers path node.path && not (same path node.path)) nodes

-- the nodes that a tree keeps, or none
abbrev pub nodes_in : {R X : Type 0} → (X → List (TreeNode R)) → Option X → List (TreeNode R)
nodes_in items None = []
nodes_in items (Some kept) = items kept

abbrev pub with_nodes : {R : Type 0} → TreeState R → List (TreeNode R) → TreeState R
with_nodes tree nodes = record { prefix_length = tree.prefix_length; nodes = nodes }

-- of a set that may be there
abbrev pub set_list : {R : Type 0} → Option R → List R
set_list None = []
set_list (Some set) = set ∷ []
