-- A merge over all sets of a tree may take them in the order of the nodes, since a key's rows stand on its path.
use Rattle.std.proofs.Common.{◌≡◌, ℕ, ◌<◌, Bool, true, false, true≢false, cond, ◌||◌, List, [], ◌∷◌, ◌++◌, map, Option, Some, None, refl, sym, ap, ◌∙◌, subst, append-nil}
use Rattle.std.specs.Prelude.{IfSome, is_some, nat_lt}
use Rattle.std.proofs.lemmas.List.{map-append}
use Rattle.std.proofs.lemmas.Grind.{flat_map-append}
use Rattle.std.specs.List.{AllByRecursion, list_any, flat_map}
use Rattle.hse_rows.specs.declared.row.Row.{Row}
use Rattle.hse_rows.specs.writes.Change.{covers}
use Rattle.hse_rows.specs.rows.Meaning.{is_own, newer, own_at}
use Rattle.row_laws.specs.Laws.{FallingRowsFallAlone}
use Rattle.row_laws.specs.Next.{OwnFalls}
use Rattle.row_laws.specs.Sources.{all_rows, AreLayersOver}
use Rattle.ingest_tree.specs.Rows.{rows_in}
use Rattle.cn_tree.specs.Path.{path_of}
use Rattle.cn_tree.specs.Tree.{TreeState, TreeNode, AreNodes, sets_on}
use Rattle.sorted_lists.specs.laws.Lists.{each-append, each-front, each-rest}
use Rattle.view.specs.Routed.{node_rows, StandsAt, IsRouted}
use Rattle.view.specs.Merges.{tree_sets, SourcesAreRows, SourcesFall}
use Rattle.view.proofs.PathLemmas.{sets-on_path}
use Rattle.view.proofs.TreeLemmas.{four-digits, rows-off}

-- ---- own rows of several sources

some-is : (row : Row) (own : Option Row) → own ≡ None → own ≡ Some row → ⊥
some-is row own none some = true≢false (sym (ap is_some (sym none ∙ some)))

newer-so : (P : Row → Type 0) (a b : Option Row) → IfSome a P → IfSome b P → IfSome (newer a b) P
newer-so P None b one two = two
newer-so P (Some a) None one two = one
newer-so P (Some a) (Some b) one two =
    elim (nat_lt b.number a.number) as (λ t. IfSome (cond t (Some a) (Some b)) P) [ true ↦ one | false ↦ two ]

module _ (key : List ℕ) where
  own-so : (P : Row → Type 0) (rows : List Row) → AllByRecursion P rows → IfSome (own_at key rows) P
  own-so P [] all = tt
  own-so P (row ∷ rows) all =
      newer-so P (cond (is_own key row) (Some row) None) (own_at key rows) (here (is_own key row)) (own-so P rows all.1)
    where
      here : (b : Bool) → IfSome (cond b (Some row) None) P
      here true = all.0
      here false = tt

  own-past : (xs ys : List Row) → list_any (is_own key) xs ≡ false → own_at key (xs ++ ys) ≡ own_at key ys
  own-past [] ys none = refl
  own-past (x ∷ xs) ys none =
      ap (λ b. newer (cond b (Some x) None) (own_at key (xs ++ ys))) (left (is_own key x) (list_any (is_own key) xs) none)
      ∙ own-past xs ys (right (is_own key x) (list_any (is_own key) xs) none)
    where
      left : (a b : Bool) → (a || b) ≡ false → a ≡ false
      left true b e = absurd (true≢false e)
      left false b e = refl

      right : (a b : Bool) → (a || b) ≡ false → b ≡ false
      right true b e = absurd (true≢false e)
      right false b e = e

  own-none : (xs : List Row) → list_any (is_own key) xs ≡ false → own_at key xs ≡ None
  own-none xs none = ap (own_at key) (sym (append-nil xs)) ∙ own-past xs [] none

  own-before : (xs ys zs : List Row) → own_at key ys ≡ own_at key zs → own_at key (xs ++ ys) ≡ own_at key (xs ++ zs)
  own-before [] ys zs e = e
  own-before (x ∷ xs) ys zs e = ap (newer (cond (is_own key x) (Some x) None)) (own-before xs ys zs e)

  -- sources, and whether a key's rows may stand there
  abbrev all_of : List (Bool × List Row) → List (List Row)
  all_of parts = map (λ (part : Bool × List Row). part.1) parts

  abbrev those_on : List (Bool × List Row) → List (List Row)
  those_on [] = []
  those_on (part ∷ parts) = cond part.0 (part.1 ∷ those_on parts) (those_on parts)

  abbrev OffHasNone : Bool × List Row → Type 0
  OffHasNone part = part.0 ≡ false → list_any (is_own key) part.1 ≡ false

  own-on : (parts : List (Bool × List Row)) → AllByRecursion OffHasNone parts → own_at key (all_rows (all_of parts)) ≡ own_at key (all_rows (those_on parts))
  own-on [] none = refl
  own-on (part ∷ parts) none = by part.0 refl (own-on parts none.1)
    where
      by : (b : Bool) → part.0 ≡ b → own_at key (all_rows (all_of parts)) ≡ own_at key (all_rows (those_on parts))
          → own_at key (part.1 ++ all_rows (all_of parts)) ≡ own_at key (all_rows (cond b (part.1 ∷ those_on parts) (those_on parts)))
      by true is rest = own-before part.1 (all_rows (all_of parts)) (all_rows (those_on parts)) rest
      by false is rest = own-past part.1 (all_rows (all_of parts)) (none.0 is) ∙ rest

  falls-on : (parts : List (Bool × List Row)) → AllByRecursion OffHasNone parts → OwnFalls key (those_on parts) → OwnFalls key (all_of parts)
  falls-on [] none falls = tt
  falls-on (part ∷ parts) none falls = by part.0 refl falls (λ rest. falls-on parts none.1 rest)
    where
      by : (b : Bool) → part.0 ≡ b → OwnFalls key (cond b (part.1 ∷ those_on parts) (those_on parts))
          → (OwnFalls key (those_on parts) → OwnFalls key (all_of parts)) → OwnFalls key (part.1 ∷ all_of parts)
      by true is falls rest = (λ own other here there. falls.0 own other here (sym (own-on parts none.1) ∙ there), rest falls.1)
      by false is falls rest = (λ own other here there. absurd (some-is own (own_at key part.1) (own-none part.1 (none.0 is)) here), rest falls)

  -- layers in front
  falls-under : (far : List (List Row)) (layers : List (List Row)) → AreLayersOver (all_rows far) layers → OwnFalls key far → OwnFalls key (layers ++ far)
  falls-under far [] over falls = falls
  falls-under far (rows ∷ layers) over falls = (
    λ own other here there.
        let near = subst (λ o. IfSome o (λ (x : Row). AllByRecursion (λ (y : Row). y.number < x.number) (all_rows layers ++ all_rows far))) here
        (own-so (λ (x : Row). AllByRecursion (λ (y : Row). y.number < x.number) (all_rows layers ++ all_rows far)) rows over.0) in
        subst (λ o. IfSome o (λ (x : Row). x.number < own.number)) there
        (own-so (λ (x : Row). x.number < own.number) (all_rows (layers ++ far)) (subst (AllByRecursion (λ (x : Row). x.number < own.number)) (sym (flat_map-append (λ l. l) layers far)) near)),
    falls-under far layers over.1 falls,
  )

-- ---- the sets of a tree

module _ {R : Type 0} (rows : R → List Row) where
  all-nodes : (nodes : List (TreeNode R)) → all_rows (map rows (flat_map (λ (node : TreeNode R). node.sets) nodes)) ≡ flat_map (node_rows rows) nodes
  all-nodes [] = refl
  all-nodes (node ∷ nodes) =
      ap all_rows (map-append rows node.sets (flat_map (λ (n : TreeNode R). n.sets) nodes))
      ∙ flat_map-append (λ l. l) (map rows node.sets) (map rows (flat_map (λ (n : TreeNode R). n.sets) nodes))
      ∙ ap (λ (l : List Row). node_rows rows node ++ l) (all-nodes nodes)

  pub sources-rows : SourcesAreRows R rows
  sources-rows layers store =
      flat_map-append (λ l. l) (map (rows_in store.id.0) layers) (map rows (tree_sets rows store.tree))
      ∙ ap (λ (l : List Row). all_rows (map (rows_in store.id.0) layers) ++ l) (all-nodes store.tree.nodes)

  -- each set, and whether it stands on a path
  abbrev node_parts : List ℕ → TreeNode R → List (Bool × List Row)
  node_parts path node = map (λ (set : R). (covers node.path path, rows set)) node.sets

  abbrev set_parts : List ℕ → List (TreeNode R) → List (Bool × List Row)
  set_parts path nodes = flat_map (node_parts path) nodes

  all-parts : (path : List ℕ) (nodes : List (TreeNode R)) → all_of [] (set_parts path nodes) ≡ map rows (flat_map (λ (node : TreeNode R). node.sets) nodes)
  all-parts path [] = refl
  all-parts path (node ∷ nodes) =
      map-append (λ (part : Bool × List Row). part.1) (node_parts path node) (set_parts path nodes)
      ∙ (λ i. of_node node.sets i ++ all-parts path nodes i)
      ∙ sym (map-append rows node.sets (flat_map (λ (n : TreeNode R). n.sets) nodes))
    where
      of_node : (sets : List R) → map (λ (part : Bool × List Row). part.1) (map (λ (set : R). (covers node.path path, rows set)) sets) ≡ map rows sets
      of_node [] = refl
      of_node (set ∷ sets) = ap (λ (l : List (List Row)). rows set ∷ l) (of_node sets)

  on-append : (xs ys : List (Bool × List Row)) → those_on [] (xs ++ ys) ≡ those_on [] xs ++ those_on [] ys
  on-append [] ys = refl
  on-append (x ∷ xs) ys =
      elim x.0 as (λ b. cond b (x.1 ∷ those_on [] (xs ++ ys)) (those_on [] (xs ++ ys)) ≡ cond b (x.1 ∷ those_on [] xs) (those_on [] xs) ++ those_on [] ys)
      [ true ↦ ap (λ (l : List (List Row)). x.1 ∷ l) (on-append xs ys) | false ↦ on-append xs ys ]

  on-parts : (path : List ℕ) (nodes : List (TreeNode R))
      → those_on [] (set_parts path nodes) ≡ map rows (flat_map (λ (node : TreeNode R). cond (covers node.path path) node.sets []) nodes)
  on-parts path [] = refl
  on-parts path (node ∷ nodes) =
      on-append (node_parts path node) (set_parts path nodes)
      ∙ (λ i. of_node (covers node.path path) node.sets i ++ on-parts path nodes i)
      ∙ sym (map-append rows (cond (covers node.path path) node.sets []) (flat_map (λ (n : TreeNode R). cond (covers n.path path) n.sets []) nodes))
    where
      of_node : (b : Bool) (sets : List R) → those_on [] (map (λ (set : R). (b, rows set)) sets) ≡ map rows (cond b sets [])
      of_node true [] = refl
      of_node true (set ∷ sets) = ap (λ (l : List (List Row)). rows set ∷ l) (of_node true sets)
      of_node false [] = refl
      of_node false (set ∷ sets) = of_node false sets

  -- a set off the key's path has no row of the key
  off-none : (prefix_length : ℕ) (key : List ℕ) (nodes : List (TreeNode R))
      → AllByRecursion (λ (node : TreeNode R). AllByRecursion (StandsAt prefix_length node.path) (node_rows rows node)) nodes
      → AllByRecursion (OffHasNone key) (set_parts (path_of prefix_length key) nodes)
  off-none prefix_length key [] stand = tt
  off-none prefix_length key (node ∷ nodes) stand =
      each-append (OffHasNone key) (node_parts (path_of prefix_length key) node) (set_parts (path_of prefix_length key) nodes)
      (of_node node.sets stand.0) (off-none prefix_length key nodes stand.1)
    where
      of_node : (sets : List R) → AllByRecursion (StandsAt prefix_length node.path) (all_rows (map rows sets))
          → AllByRecursion (OffHasNone key) (map (λ (set : R). (covers node.path (path_of prefix_length key), rows set)) sets)
      of_node [] stand = tt
      of_node (set ∷ sets) stand = (
        λ off. rows-off prefix_length key node.path off (rows set) (each-front _ (rows set) (all_rows (map rows sets)) stand),
        of_node sets (each-rest _ (rows set) (all_rows (map rows sets)) stand),
      )

  tree-falls : FallingRowsFallAlone → (prefix_length : ℕ) (tree : TreeState R) → IsRouted rows prefix_length tree → AreNodes tree.nodes
      → (key : List ℕ) → OwnFalls key (map rows (tree_sets rows tree))
  unfolding sets_on
  tree-falls alone prefix_length tree routed known key =
      let path = path_of tree.prefix_length key in
      let stands = subst (λ n. AllByRecursion (λ (node : TreeNode R). AllByRecursion (StandsAt n node.path) (node_rows rows node)) tree.nodes)
      (sym routed.prefix) routed.stands in
      subst (OwnFalls key) (all-parts path tree.nodes)
      (falls-on key (set_parts path tree.nodes) (off-none tree.prefix_length key tree.nodes stands)
      (subst (OwnFalls key)
      (sym (on-parts path tree.nodes ∙ ap (map rows) (sets-on_path path (four-digits tree.prefix_length key) tree.nodes known.rising)))
      (alone (map rows (sets_on tree key)) key (routed.falls key))))

  pub sources-fall : FallingRowsFallAlone → SourcesFall R rows
  sources-fall alone layers store under known key =
      falls-under key (map rows (tree_sets rows store.tree)) (map (rows_in store.id.0) layers)
      (subst (λ (far : List Row). AreLayersOver far (map (rows_in store.id.0) layers)) (sym (all-nodes store.tree.nodes)) under.over)
      (tree-falls alone store.prefix store.tree under.routed known key)
