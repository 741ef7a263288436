-- Nodes in the order of their paths: what a search for a path tells, and what a change at its place makes.
use Rattle.std.proofs.Common.{◌≡◌, ℕ, suc, ◌+◌, ◌<◌, ◌≤◌, cond, not, List, [], ◌∷◌, ◌++◌, take, drop, Some, Err, length, get_or, slice_set, refl, ap, sym, ◌∙◌, arith}
use Rattle.std.specs.declared.cmp.Ordering.{Ordering}
use Rattle.std.specs.declared.cmp.Ordering.TheVariants.{Less, Equal, Greater}
use Rattle.std.specs.Ordering.{is_eq, ordering_reverse}
use Rattle.std.specs.Cmp.{IsTotalOrder, on_total}
use Rattle.std.specs.Cmp.Lexicographic.{nat_list_cmp_total, texts_ties}
use Rattle.std.specs.List.{filter, find, insert}
use Rattle.std.specs.List.Sorted.{IsStrictlySortedBy, IsBinarySearchResult}
use Rattle.hse_rows.specs.writes.Sorted.{placed}
use Rattle.cn_tree.specs.Tree.{TreeNode, path_cmp, HasSets, AreNodes, is_at, sets_in, sets_at, node_of, with_sets}
use Rattle.sorted_lists.specs.Places.{is_apart, without, IsPlace}
use Rattle.sorted_lists.specs.laws.Lists.{each-filter, filter-alike}
use Rattle.sorted_lists.specs.laws.Orders.{rising-filter, rising-replaced, each-placed, set-found, insert-missing, apart-missing, place-searched as searched}
use Rattle.sorted_lists.specs.laws.Parts.{find-found, find-missing, without-found, without-missing}

eq-turned : (r : Ordering) → is_eq (ordering_reverse r) ≡ is_eq r
eq-turned Less = refl
eq-turned Equal = refl
eq-turned Greater = refl

pub path_order : {R : Type 0} → IsTotalOrder (path_cmp {R = R})
path_order {R} = on_total (λ (node : TreeNode R). node.path) nat_list_cmp_total

module _ {R : Type 0} (path : List ℕ) (sets : List R) where
  -- a node is at the path where it ties with one there
  at-ties : (node : TreeNode R) → is_at path node ≡ is_eq (path_cmp node (node_of path sets))
  at-ties node = texts_ties node.path path

  apart-parted : (node : TreeNode R) → not (is_at path node) ≡ is_apart path_cmp (node_of path sets) node
  apart-parted node =
      ap not (at-ties node ∙ ap is_eq (path_order.antisymm node (node_of path sets)) ∙ eq-turned (path_cmp (node_of path sets) node))

  others-parted : (nodes : List (TreeNode R)) → filter (λ node. not (is_at path node)) nodes ≡ without path_cmp nodes (node_of path sets)
  others-parted nodes = filter-alike (λ node. not (is_at path node)) (is_apart path_cmp (node_of path sets)) apart-parted nodes

  find-ties : (nodes : List (TreeNode R)) → find (is_at path) nodes ≡ find (λ node. is_eq (path_cmp node (node_of path sets))) nodes
  find-ties [] = refl
  find-ties (node ∷ nodes) = λ i. cond (at-ties node i) (Some node) (find-ties nodes i)

  -- what a search answers
  abbrev pub Searched : List (TreeNode R) → ℕ → Type 0
  Searched nodes i = IsBinarySearchResult (λ node. path_cmp node (node_of path sets)) nodes (Err i)

  pub place-searched : (nodes : List (TreeNode R)) (i : ℕ) → IsStrictlySortedBy path_cmp nodes → i ≤ length nodes → Searched nodes i → IsPlace path_cmp nodes (node_of path sets) i
  place-searched nodes i rise within missing = searched path_order nodes (node_of path sets) i rise within missing

  module _ (nodes : List (TreeNode R)) (i : ℕ) (d : TreeNode R) (rise : IsStrictlySortedBy path_cmp nodes)
      (in' : i < length nodes) (tied : path_cmp (get_or nodes i d) (node_of path sets) ≡ Equal) where
    pub sets_at-found : sets_at nodes path ≡ (get_or nodes i d).sets
    sets_at-found = ap sets_in (find-ties nodes ∙ find-found path_order nodes (node_of path sets) i d rise in' tied)

    pub removed-found : take i nodes ++ drop (i + 1) nodes ≡ filter (λ node. not (is_at path node)) nodes
    removed-found =
        ap (λ n. take i nodes ++ drop n nodes) (let n : i + 1 ≡ suc i = omega arith in n)
        ∙ sym (without-found path_order nodes (node_of path sets) i d rise in' tied) ∙ sym (others-parted nodes)

    pub placed-found : slice_set nodes i (node_of path sets) ≡ placed path_cmp (filter (λ node. not (is_at path node)) nodes) (node_of path sets)
    placed-found =
        set-found path_order nodes (node_of path sets) i d rise in' tied
        ∙ ap (λ (l : List (TreeNode R)). placed path_cmp l (node_of path sets)) (sym (others-parted nodes))

  module _ (nodes : List (TreeNode R)) (i : ℕ) (place : IsPlace path_cmp nodes (node_of path sets) i) where
    pub others-missing : filter (λ node. not (is_at path node)) nodes ≡ nodes
    others-missing =
        others-parted nodes
        ∙ without-missing path_order nodes (node_of path sets) (apart-missing path_order nodes (node_of path sets) i place)

    pub sets_at-missing : sets_at nodes path ≡ []
    sets_at-missing =
        ap sets_in (find-ties nodes ∙ find-missing path_order nodes (node_of path sets) (apart-missing path_order nodes (node_of path sets) i place))

    pub placed-missing : insert nodes i (node_of path sets) ≡ placed path_cmp (filter (λ node. not (is_at path node)) nodes) (node_of path sets)
    placed-missing =
        insert-missing path_order nodes (node_of path sets) i place
        ∙ ap (λ (l : List (TreeNode R)). placed path_cmp l (node_of path sets)) (sym others-missing)

-- the nodes stay nodes
pub with_sets-nodes : {R : Type 0} (nodes : List (TreeNode R)) (path : List ℕ) (sets : List R) → AreNodes nodes → AreNodes (with_sets nodes path sets)
with_sets-nodes nodes path [] are = record {
  rising = rising-filter path_order (λ node. not (is_at path node)) nodes are.rising;
  full = each-filter HasSets (λ node. not (is_at path node)) nodes are.full;
}
with_sets-nodes nodes path (first ∷ rest) are =
    let made = node_of path (first ∷ rest) in
    record {
      rising = rw (others-parted path (first ∷ rest) nodes) (rising-replaced path_order nodes made are.rising);
      full = each-placed path_order HasSets (filter (λ node. not (is_at path node)) nodes) made
          (each-filter HasSets (λ node. not (is_at path node)) nodes are.full) (λ e. absurd (omega (arith, e)));
    }

pub none-nodes : {R : Type 0} → AreNodes {R = R} []
unfolding IsStrictlySortedBy
none-nodes = record { rising = tt; full = tt }
