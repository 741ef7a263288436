-- A tree is the layout of one store.
use Rattle.std.proofs.Common.{◌≡◌, ℕ, ◌==◌, true, cond, not, ◌&&◌, ◌||◌, List, [], ◌∷◌, map, Some, refl, ap, ◌∙◌, eq-eqb}
use Rattle.std.specs.declared.cmp.Ordering.{Ordering}
use Rattle.std.specs.declared.cmp.Ordering.TheVariants.{Equal}
use Rattle.std.specs.Ordering.{nat_cmp, is_lt, ordering_then}
use Rattle.std.specs.Cmp.{nat_cmp_total}
use Rattle.std.proofs.lemmas.Cmp.{tied_itself}
use Rattle.std.specs.Cmp.Lexicographic.{slice_cmp}
use Rattle.std.specs.List.{filter, find}
use Rattle.hse_rows.specs.writes.Change.{covers}
use Rattle.hse_rows.specs.writes.NormalForm.{same}
use Rattle.hse_rows.specs.writes.Sorted.{placed}
use Rattle.hse_rows.specs.rows.Layout.{RowsInBlocks, Node, node_cmp, is_at as layout_is_at, sets_in as layout_sets_in, sets_at as layout_sets_at, with_sets as layout_with_sets, has_children as layout_has_children}
use Rattle.cn_tree.specs.Tree.{TreeNode, path_cmp, is_at, sets_in, sets_at, node_of, with_sets, has_children}
use Rattle.cn_tree.specs.Layouts.{node_in, layout_of}

module _ {R : Type 0} (store : ℕ) (blocks : R → RowsInBlocks) where
  own : (store == store) ≡ true
  own = eq-eqb store store refl

  pub sets-same : (nodes : List (TreeNode R)) (path : List ℕ) → layout_sets_at (layout_of store blocks nodes) store path ≡ map blocks (sets_at nodes path)
  sets-same [] path = refl
  sets-same (x ∷ xs) path =
      ap (λ b. layout_sets_in (cond (b && same x.path path) (Some (node_in store blocks x)) (find (layout_is_at store path) (layout_of store blocks xs)))) own
      ∙ elim (same x.path path)
      as (λ b. layout_sets_in (cond b (Some (node_in store blocks x)) (find (layout_is_at store path) (layout_of store blocks xs)))
      ≡ map blocks (sets_in (cond b (Some x) (find (is_at path) xs))))
      [ true ↦ refl | _ ↦ sets-same xs path ]

  others-same : (nodes : List (TreeNode R)) (path : List ℕ)
      → filter (λ (node : Node). not (layout_is_at store path node)) (layout_of store blocks nodes) ≡ layout_of store blocks (filter (λ node. not (is_at path node)) nodes)
  others-same [] path = refl
  others-same (x ∷ xs) path =
      ap (λ b. cond (not (b && same x.path path)) (node_in store blocks x ∷ filter (λ (node : Node). not (layout_is_at store path node)) (layout_of store blocks xs)) (filter (λ (node : Node). not (layout_is_at store path node)) (layout_of store blocks xs))) own
      ∙ elim (not (same x.path path))
      as (λ b. cond b (node_in store blocks x ∷ filter (λ (node : Node). not (layout_is_at store path node)) (layout_of store blocks xs)) (filter (λ (node : Node). not (layout_is_at store path node)) (layout_of store blocks xs))
      ≡ layout_of store blocks (cond b (x ∷ filter (λ node. not (is_at path node)) xs) (filter (λ node. not (is_at path node)) xs)))
      [ true ↦ ap (λ l. node_in store blocks x ∷ l) (others-same xs path) | _ ↦ others-same xs path ]

  cmp-same : (x y : TreeNode R) → node_cmp (node_in store blocks x) (node_in store blocks y) ≡ path_cmp x y
  cmp-same x y = by (nat_cmp store store) (tied_itself nat_cmp_total store)
    where
      by : (r : Ordering) → r ≡ Equal → ordering_then r (slice_cmp nat_cmp x.path y.path) ≡ slice_cmp nat_cmp x.path y.path
      by r is = ap (λ (c : Ordering). ordering_then c (slice_cmp nat_cmp x.path y.path)) is

  placed-same : (nodes : List (TreeNode R)) (x : TreeNode R)
      → placed node_cmp (layout_of store blocks nodes) (node_in store blocks x) ≡ layout_of store blocks (placed path_cmp nodes x)
  placed-same [] x = refl
  placed-same (y ∷ ys) x =
      ap (λ (r : Ordering). cond (is_lt r) (node_in store blocks x ∷ node_in store blocks y ∷ layout_of store blocks ys) (node_in store blocks y ∷ placed node_cmp (layout_of store blocks ys) (node_in store blocks x))) (cmp-same x y)
      ∙ elim (is_lt (path_cmp x y))
      as (λ b. cond b (node_in store blocks x ∷ node_in store blocks y ∷ layout_of store blocks ys) (node_in store blocks y ∷ placed node_cmp (layout_of store blocks ys) (node_in store blocks x))
      ≡ layout_of store blocks (cond b (x ∷ y ∷ ys) (y ∷ placed path_cmp ys x)))
      [ true ↦ refl | _ ↦ ap (λ l. node_in store blocks y ∷ l) (placed-same ys x) ]

  pub changes-same : (nodes : List (TreeNode R)) (path : List ℕ) (sets : List R)
      → layout_with_sets (layout_of store blocks nodes) store path (map blocks sets) ≡ layout_of store blocks (with_sets nodes path sets)
  changes-same nodes path [] = others-same nodes path
  changes-same nodes path (first ∷ rest) =
      ap (λ l. placed node_cmp l (node_in store blocks (node_of path (first ∷ rest)))) (others-same nodes path)
      ∙ placed-same (filter (λ node. not (is_at path node)) nodes) (node_of path (first ∷ rest))

  pub children-same : (nodes : List (TreeNode R)) (path : List ℕ) → layout_has_children (layout_of store blocks nodes) store path ≡ has_children nodes path
  children-same [] path = refl
  children-same (x ∷ xs) path =
      (λ i. ((own i && covers path x.path) && not (same path x.path)) || children-same xs path i)
