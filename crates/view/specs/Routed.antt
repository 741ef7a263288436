-- A tree whose sets stand where a key looks for them: the condition that an opening tests of a device's sets.
use Rattle.std.specs.Prelude.{◌≡◌, ℕ, true, false, List, length, map, flat_map, Some}
use Rattle.std.specs.List.{AllByRecursion}
use Rattle.hse_rows.specs.declared.row.Row.{Row}
use Rattle.hse_rows.specs.declared.change.Change.{Change}
use Rattle.hse_rows.specs.declared.change.Change.TheVariants.{Put, Del, PDel}
use Rattle.hse_rows.specs.writes.Change.{covers, target}
use Rattle.hse_rows.specs.writes.Lengths.{FitsPrefix}
use Rattle.hse_rows.specs.rows.Routing.{is_short}
use Rattle.hse_rows.specs.rows.Meaning.{own_at, covered_at}
use Rattle.row_laws.specs.Parts.{RowPart, rows_on, rows_off, IsBelow}
use Rattle.row_laws.specs.Sources.{all_rows, Falls}
use Rattle.cn_tree.specs.Path.{path_of}
use Rattle.cn_tree.specs.Tree.{TreeState, TreeNode, sets_on}

-- A row's key, or its prefix of the full length, routes along the node's path. A shorter prefix may stand anywhere.
abbrev pub RoutesTo : ℕ → List ℕ → Row → Type 0
RoutesTo prefix_length path row =
    is_short prefix_length row.change ≡ false → covers path (path_of prefix_length (target row.change)) ≡ true

-- a prefix delete is one that the store takes
abbrev pub FitsStore : ℕ → Change → Type 0
FitsStore prefix_length (PDel prefix) = FitsPrefix prefix_length (length prefix)
FitsStore prefix_length (Put key bytes) = Unit {0}
FitsStore prefix_length (Del key) = Unit {0}

pub record StandsAt (prefix_length : ℕ) (path : List ℕ) (row : Row) : Type 0 where
  pub routes : RoutesTo prefix_length path row
  pub fits : FitsStore prefix_length row.change

module _ {R : Type 0} (rows : R → List Row) where
  abbrev pub node_rows : TreeNode R → List Row
  node_rows node = all_rows (map rows node.sets)

  -- the rows of all sets of a tree
  abbrev pub tree_rows : TreeState R → List Row
  tree_rows tree = flat_map node_rows tree.nodes

  -- a node's rows, and whether the node stands on a key's path
  abbrev pub part_for : ℕ → List ℕ → TreeNode R → RowPart
  part_for prefix_length key node = (covers node.path (path_of prefix_length key), node_rows node)

  abbrev pub parts_for : List ℕ → TreeState R → List RowPart
  parts_for key tree = map (part_for tree.prefix_length key) tree.nodes

  -- Where a prefix delete off the key's path is newer than the key's row, one on the path is too.
  abbrev pub IsShown : TreeState R → List ℕ → Type 0
  IsShown tree key =
      (own : Row) → own_at key (rows_on (parts_for key tree)) ≡ Some own
      → IsBelow own.number (covered_at key (rows_off (parts_for key tree)))
      → IsBelow own.number (covered_at key (rows_on (parts_for key tree)))

  -- Each row stands on its path, and on each key's path the numbers of the rows that reach it fall from set to set.
  pub record IsRouted (prefix_length : ℕ) (tree : TreeState R) : Type 0 where
    pub prefix : tree.prefix_length ≡ prefix_length
    pub stands :
        AllByRecursion (λ (node : TreeNode R). AllByRecursion (StandsAt prefix_length node.path) (node_rows node)) tree.nodes
    pub falls : (key : List ℕ) → Falls key (map rows (sets_on tree key))
    pub shown : (key : List ℕ) → IsShown tree key
