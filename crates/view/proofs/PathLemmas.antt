-- The sets on a key's path are the sets of the nodes that stand on it, in the order of the nodes.
use Rattle.std.proofs.Common.{◌≡◌, ℕ, zero, suc, ◌+◌, ◌<◌, ◌≤◌, Bool, ltb, true, false, true≢false, cond, List, [], ◌∷◌, ◌++◌, length, take, map, Some, refl, sym, ap, ◌∙◌, arith}
use Rattle.std.proofs.lemmas.Bool.{ltb-true, ltb-false}
use Rattle.std.proofs.lemmas.List.{map-append, length-take}
use Rattle.std.proofs.lemmas.Cmp.{nat_cmp_total}
use Rattle.std.proofs.lemmas.Grind.{flat_map-append}
use Rattle.std.specs.List.{AllByRecursion, find, flat_map}
use Rattle.std.specs.List.Sorted.{IsStrictlySortedBy}
use Rattle.std.specs.declared.cmp.Ordering.{Ordering}
use Rattle.std.specs.declared.cmp.Ordering.TheVariants.{Less, Equal, Greater}
use Rattle.std.specs.Ordering.{nat_cmp, is_lt, ordering_reverse, ordering_then}
use Rattle.std.specs.Cmp.Lexicographic.{slice_cmp, same_text}
use Rattle.hse_rows.specs.declared.row.Row.{Row}
use Rattle.hse_rows.specs.writes.Change.{covers}
use Rattle.row_laws.specs.Sources.{all_rows}
use Rattle.row_laws.specs.Parts.{RowPart, rows_on}
use Rattle.cn_tree.specs.Path.{depths}
use Rattle.cn_tree.specs.Tree.{TreeNode, path_cmp, is_at, sets_in, sets_at, sets_along}
use Rattle.sorted_lists.specs.laws.Lists.{each-weaker}
use Rattle.sorted_lists.specs.laws.Parts.{find-none}
use Rattle.view.specs.Routed.{node_rows}

-- ---- orders of beginnings

ties : (r : Ordering) → r ≡ ordering_reverse r → r ≡ Equal
ties Less e = absurd (true≢false (ap is_lt e))
ties Equal e = refl
ties Greater e = absurd (true≢false (sym (ap is_lt e)))

-- of two beginnings the longer one is not before the shorter one
not-before : (d k : ℕ) (xs : List ℕ) → d ≤ k → is_lt (slice_cmp nat_cmp (take k xs) (take d xs)) ≡ false
not-before zero k xs up = by (take k xs)
  where
    by : (ys : List ℕ) → is_lt (slice_cmp nat_cmp ys []) ≡ false
    by [] = refl
    by (y ∷ ys) = refl
not-before (suc d) zero xs up = absurd (omega (arith, up))
not-before (suc d) (suc k) [] up = refl
not-before (suc d) (suc k) (x ∷ xs) up =
    ap (λ r. is_lt (ordering_then r (slice_cmp nat_cmp (take k xs) (take d xs)))) (ties (nat_cmp x x) (nat_cmp_total.antisymm x x))
    ∙ not-before d k xs (omega (arith, up))

-- so many depths from one on
abbrev from : ℕ → ℕ → List ℕ
from d zero = []
from d (suc n) = d ∷ from (suc d) n

module _ {R : Type 0} (path : List ℕ) (four : length path ≡ 4) where
  -- a node that stands at another depth is not there
  other-depth : (node : TreeNode R) (d : ℕ) → d ≤ 4 → (d ≡ length node.path → ⊥) → is_at (take d path) node ≡ false
  other-depth node d within apart = by (is_at (take d path) node) refl
    where
      by : (b : Bool) → is_at (take d path) node ≡ b → b ≡ false
      by true is =
          let long = ap length (same_text node.path (take d path) (sym is)) ∙ length-take d path in
          absurd (apart (omega (arith, long, four, within)))
      by false is = refl

  -- nodes behind one on the path are at no depth up to its own
  behind-none : (node other : TreeNode R) (d : ℕ) → covers node.path path ≡ true → d ≤ length node.path → path_cmp node other ≡ Less → is_at (take d path) other ≡ false
  behind-none node other d on up less = by (is_at (take d path) other) refl
    where
      by : (b : Bool) → is_at (take d path) other ≡ b → b ≡ false
      by true is =
          let here = same_text node.path (take (length node.path) path) (sym on) in
          let there = same_text other.path (take d path) (sym is) in
          let turned = (λ i. is_lt (slice_cmp nat_cmp (here i) (there i))) ∙ not-before d (length node.path) path up in
          absurd (true≢false (sym (ap is_lt less) ∙ turned))
      by false is = refl

  none-at : (nodes : List (TreeNode R)) (d : ℕ) → AllByRecursion (λ node. is_at (take d path) node ≡ false) nodes → sets_at nodes (take d path) ≡ []
  none-at nodes d none = ap sets_in (find-none (is_at (take d path)) nodes none)

  past : (node : TreeNode R) (nodes : List (TreeNode R)) (d : ℕ) → is_at (take d path) node ≡ false → sets_at (node ∷ nodes) (take d path) ≡ sets_at nodes (take d path)
  past node nodes d apart = ap (λ b. sets_in (cond b (Some node) (find (is_at (take d path)) nodes))) apart

  along-behind : (node : TreeNode R) (nodes : List (TreeNode R)) (d n : ℕ) → length node.path < d → d + n ≤ 5
      → sets_along (node ∷ nodes) path (from d n) ≡ sets_along nodes path (from d n)
  along-behind node nodes d zero deeper within = refl
  along-behind node nodes d (suc n) deeper within =
      λ i. past node nodes d (other-depth node d (omega (arith, within)) (λ e. omega (arith, e, deeper))) i
      ++ along-behind node nodes (suc d) n (omega (arith, deeper)) (omega (arith, within)) i

  module _ (node : TreeNode R) (nodes : List (TreeNode R)) (on : covers node.path path ≡ true)
      (behind : AllByRecursion (λ other. path_cmp node other ≡ Less) nodes) where
    gone : (d : ℕ) → d ≤ length node.path → sets_at nodes (take d path) ≡ []
    gone d up = none-at nodes d (each-weaker (λ other less. behind-none node other d on up less) nodes behind)

    along-here : (d n : ℕ) → d ≤ length node.path → length node.path < d + n → d + n ≤ 5
        → sets_along (node ∷ nodes) path (from d n) ≡ node.sets ++ sets_along nodes path (from d n)
    along-here d zero up more within = absurd (omega (arith, up, more))
    along-here d (suc n) up more within =
        by (λ less. along-here (suc d) n (omega (arith, less)) (omega (arith, more)) (omega (arith, within))) (ltb d (length node.path)) refl
      where
        by : (d < length node.path → sets_along (node ∷ nodes) path (from (suc d) n) ≡ node.sets ++ sets_along nodes path (from (suc d) n))
            → (b : Bool) → ltb d (length node.path) ≡ b
            → sets_along (node ∷ nodes) path (d ∷ from (suc d) n) ≡ node.sets ++ sets_along nodes path (d ∷ from (suc d) n)
        by deeper true is =
            let less = ltb-true d (length node.path) is in
            (λ i. (past node nodes d (other-depth node d (omega (arith, within)) (λ e. omega (arith, e, less))) ∙ gone d up) i
            ++ deeper less i)
            ∙ ap (λ (sets : List R). node.sets ++ (sets ++ sets_along nodes path (from (suc d) n))) (sym (gone d up))
        by deeper false is =
            let down = ltb-false d (length node.path) is in
            let there : d ≡ length node.path = omega (arith, up, down) in
            let here : is_at (take d path) node ≡ true = ap (λ k. is_at (take k path) node) there ∙ on in
            (λ i. sets_in (cond (here i) (Some node) (find (is_at (take d path)) nodes))
            ++ along-behind node nodes (suc d) n (omega (arith, there)) (omega (arith, within)) i)
            ∙ ap (λ (sets : List R). node.sets ++ (sets ++ sets_along nodes path (from (suc d) n))) (sym (gone d up))

  along-off : (node : TreeNode R) (nodes : List (TreeNode R)) → covers node.path path ≡ false → (d n : ℕ) → d + n ≤ 5
      → sets_along (node ∷ nodes) path (from d n) ≡ sets_along nodes path (from d n)
  along-off node nodes off d zero within = refl
  along-off node nodes off d (suc n) within =
      λ i. past node nodes d (by (is_at (take d path) node) refl) i ++ along-off node nodes off (suc d) n (omega (arith, within)) i
    where
      by : (b : Bool) → is_at (take d path) node ≡ b → b ≡ false
      by true is =
          let there = same_text node.path (take d path) (sym is) in
          let long = ap length there ∙ length-take d path in
          let deep : d ≡ length node.path = omega (arith, long, four, within) in
          sym is ∙ ap (λ k. is_at (take k path) node) deep ∙ off
      by false is = refl

-- ---- rows

all_rows-append : (xs ys : List (List Row)) → all_rows (xs ++ ys) ≡ all_rows xs ++ all_rows ys
all_rows-append xs ys = flat_map-append (λ rows. rows) xs ys

module _ {R : Type 0} (rows : R → List Row) (path : List ℕ) (four : length path ≡ 4) where
  abbrev parts : List (TreeNode R) → List RowPart
  parts nodes = map (λ (node : TreeNode R). (covers node.path path, node_rows rows node)) nodes

  pub rows-on_path : (nodes : List (TreeNode R)) → IsStrictlySortedBy path_cmp nodes
      → rows_on (parts nodes) ≡ all_rows (map rows (sets_along nodes path depths))
  unfolding IsStrictlySortedBy
  rows-on_path [] rise = refl
  rows-on_path (node ∷ nodes) rise = by (covers node.path path) refl (rows-on_path nodes rise.1)
    where
      by : (b : Bool) → covers node.path path ≡ b → rows_on (parts nodes) ≡ all_rows (map rows (sets_along nodes path depths))
          → cond b (node_rows rows node) [] ++ rows_on (parts nodes) ≡ all_rows (map rows (sets_along (node ∷ nodes) path depths))
      by true is rest =
          let long = ap length (same_text node.path (take (length node.path) path) (sym is)) ∙ length-take (length node.path) path in
          ap (λ (l : List Row). node_rows rows node ++ l) rest
          ∙ sym (all_rows-append (map rows node.sets) (map rows (sets_along nodes path depths)))
          ∙ ap all_rows (sym (map-append rows node.sets (sets_along nodes path depths)))
          ∙ ap (λ sets. all_rows (map rows sets)) (sym (along-here path four node nodes is rise.0 0 5 (omega arith) (omega (arith, long, four)) (omega arith)))
      by false is rest = rest ∙ ap (λ sets. all_rows (map rows sets)) (sym (along-off path four node nodes is 0 5 (omega arith)))

-- the sets of the nodes on a path
module _ {R : Type 0} (path : List ℕ) (four : length path ≡ 4) where
  pub sets-on_path : (nodes : List (TreeNode R)) → IsStrictlySortedBy path_cmp nodes
      → flat_map (λ (node : TreeNode R). cond (covers node.path path) node.sets []) nodes ≡ sets_along nodes path depths
  unfolding IsStrictlySortedBy
  sets-on_path [] rise = refl
  sets-on_path (node ∷ nodes) rise = by (covers node.path path) refl (sets-on_path nodes rise.1)
    where
      by : (b : Bool) → covers node.path path ≡ b
          → flat_map (λ (n : TreeNode R). cond (covers n.path path) n.sets []) nodes ≡ sets_along nodes path depths
          → cond b node.sets [] ++ flat_map (λ (n : TreeNode R). cond (covers n.path path) n.sets []) nodes ≡ sets_along (node ∷ nodes) path depths
      by true is rest =
          let long = ap length (same_text node.path (take (length node.path) path) (sym is)) ∙ length-take (length node.path) path in
          ap (λ (l : List R). node.sets ++ l) rest
          ∙ sym (along-here path four node nodes is rise.0 0 5 (omega arith) (omega (arith, long, four)) (omega arith))
      by false is rest = rest ∙ sym (along-off path four node nodes is 0 5 (omega arith))
