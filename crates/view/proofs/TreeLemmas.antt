-- What a key holds in a tree's rows is what the rows on its path say.
use Rattle.std.proofs.Common.{◌≡◌, ℕ, ◌==◌, Bool, true, false, true≢false, cond, not, ◌&&◌, ◌||◌, List, [], ◌∷◌, ◌++◌, length, map, refl, sym, ap, ◌∙◌, subst}
use Rattle.std.proofs.lemmas.List.Folds.{list_any-append}
use Rattle.std.specs.List.{AllByRecursion, list_any, flat_map}
use Rattle.std.specs.FinMap as fin_map
use Rattle.std.specs.Cmp.Lexicographic.{same_text}
use Rattle.hse_rows.specs.declared.change.Change.{Change}
use Rattle.hse_rows.specs.declared.change.Change.TheVariants.{Put, Del, PDel}
use Rattle.hse_rows.specs.declared.row.Row.{Row}
use Rattle.hse_rows.specs.writes.Change.{covers, target}
use Rattle.hse_rows.specs.writes.NormalForm.{rank, same}
use Rattle.hse_rows.specs.writes.Reach.{reaches}
use Rattle.hse_rows.specs.rows.Routing.{is_short}
use Rattle.hse_rows.specs.rows.Meaning.{contents_of, is_own}
use Rattle.row_laws.specs.Laws.{PathsDecide, LastingRowsLeaveValues}
use Rattle.row_laws.specs.Parts.{RowPart, rows_on, rows_off, rows_in, StandsOnPath}
use Rattle.row_laws.specs.Sources.{all_rows}
use Rattle.row_laws.specs.Next.{lasting_at, value_left}
use Rattle.cn_tree.specs.Path.{path_of}
use Rattle.cn_tree.specs.Tree.{TreeState, TreeNode, AreNodes, sets_on}
use Rattle.sorted_lists.specs.laws.Lists.{each-weaker}
use Rattle.view.specs.Routed.{StandsAt, node_rows, tree_rows, part_for, parts_for, IsRouted}
use Rattle.view.proofs.PathLemmas.{rows-on_path}

pub four-digits : (prefix_length : ℕ) (key : List ℕ) → length (path_of prefix_length key) ≡ 4
unfolding path_of
four-digits prefix_length key = refl

none-any : {X : Type 0} (p : X → Bool) (xs : List X) → AllByRecursion (λ x. p x ≡ false) xs → list_any p xs ≡ false
none-any p [] none = refl
none-any p (x ∷ xs) none = λ i. none.0 i || none-any p xs none.1 i

module _ (prefix_length : ℕ) (key path : List ℕ) (off : covers path (path_of prefix_length key) ≡ false) where
  same-off : (own : List ℕ) → covers path (path_of prefix_length own) ≡ true → same own key ≡ false
  same-off own on = by (same own key) refl
    where
      by : (b : Bool) → same own key ≡ b → b ≡ false
      by true is = absurd (true≢false (sym on ∙ ap (λ k. covers path (path_of prefix_length k)) (same_text own key (sym is)) ∙ off))
      by false is = refl

  change-off : (change : Change) → (is_short prefix_length change ≡ false → covers path (path_of prefix_length (target change)) ≡ true)
      → (not (rank change == 0) && reaches change key) ≡ false
  change-off (Put own bytes) routes = same-off own (routes refl)
  change-off (Del own) routes = same-off own (routes refl)
  change-off (PDel prefix) routes = refl

  pub rows-off : (rows : List Row) → AllByRecursion (StandsAt prefix_length path) rows → list_any (is_own key) rows ≡ false
  rows-off rows stand = none-any (is_own key) rows (each-weaker (λ row stands. change-off row.change stands.routes) rows stand)

module _ {R : Type 0} (rows : R → List Row) (prefix_length : ℕ) (key : List ℕ) where
  abbrev parts : List (TreeNode R) → List RowPart
  parts nodes = map (part_for rows prefix_length key) nodes

  tree-parts : (nodes : List (TreeNode R)) → flat_map (node_rows rows) nodes ≡ rows_in (parts nodes)
  tree-parts [] = refl
  tree-parts (node ∷ nodes) = ap (λ (l : List Row). node_rows rows node ++ l) (tree-parts nodes)

  parts-off : (nodes : List (TreeNode R)) → AllByRecursion (λ (node : TreeNode R). AllByRecursion (StandsAt prefix_length node.path) (node_rows rows node)) nodes
      → list_any (is_own key) (rows_off (parts nodes)) ≡ false
  parts-off [] stand = refl
  parts-off (node ∷ nodes) stand = by (covers node.path (path_of prefix_length key)) refl (parts-off nodes stand.1)
    where
      by : (b : Bool) → covers node.path (path_of prefix_length key) ≡ b → list_any (is_own key) (rows_off (parts nodes)) ≡ false
          → list_any (is_own key) (cond b [] (node_rows rows node) ++ rows_off (parts nodes)) ≡ false
      by true is rest = rest
      by false is rest =
          list_any-append (is_own key) (node_rows rows node) (rows_off (parts nodes))
          ∙ (λ i. rows-off prefix_length key node.path is (node_rows rows node) stand.0 i || rest i)

module _ {R : Type 0} (rows : R → List Row) (key : List ℕ) (tree : TreeState R) (known : AreNodes tree.nodes) where
  on-path : rows_on (parts_for rows key tree) ≡ all_rows (map rows (sets_on tree key))
  unfolding sets_on
  on-path = rows-on_path rows (path_of tree.prefix_length key) (four-digits tree.prefix_length key) tree.nodes known.rising

  stands-on_path : (prefix_length : ℕ) → IsRouted rows prefix_length tree → StandsOnPath key (parts_for rows key tree)
  stands-on_path prefix_length routed = record {
    own = parts-off rows tree.prefix_length key tree.nodes
        (subst (λ n. AllByRecursion (λ (node : TreeNode R). AllByRecursion (StandsAt n node.path) (node_rows rows node)) tree.nodes)
        (sym routed.prefix) routed.stands);
    covered = routed.shown key;
  }

  -- the tree's rows give the key what the rows on its path leave
  pub get-tree : (prefix_length : ℕ) → IsRouted rows prefix_length tree → PathsDecide → LastingRowsLeaveValues
      → fin_map.get (contents_of (tree_rows rows tree)) key ≡ value_left (lasting_at (all_rows (map rows (sets_on tree key))) key)
  get-tree prefix_length routed paths values =
      ap (λ (l : List Row). fin_map.get (contents_of l) key) (tree-parts rows tree.prefix_length key tree.nodes)
      ∙ paths (parts_for rows key tree) key (stands-on_path prefix_length routed)
      ∙ ap (λ (l : List Row). fin_map.get (contents_of l) key) on-path
      ∙ values (all_rows (map rows (sets_on tree key))) key
