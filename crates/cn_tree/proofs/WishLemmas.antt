-- What is picked in one tree is what the machine's schedule picks of that store's nodes.
use Rattle.std.proofs.Common.{◌≡◌, ℕ, ◌==◌, Bool, true, false, cond, not, ◌&&◌, ◌||◌, List, [], ◌∷◌, ◌++◌, map, length, Option, Some, None, refl, sym, ap, ◌∙◌}
use Rattle.std.specs.Prelude.{is_some, sum_by, nat_le, nat_lt, ◌+◌, if◌then◌else◌}
use Rattle.std.proofs.lemmas.List.{length-map}
use Rattle.std.specs.List.{find, fold}
use Rattle.std.specs.Option.{option_map}
use Rattle.hse_rows.specs.declared.row.Row.{Row}
use Rattle.hse_rows.specs.writes.Change.{covers}
use Rattle.hse_rows.specs.writes.NormalForm.{same}
use Rattle.hse_rows.specs.rows.Routing.{greatest_depth}
use Rattle.hse_rows.specs.states.State.{Store, store_of}
use Rattle.hse_rows.specs.transactions.Timeline.{for_some}
use Rattle.hse_rows.specs.rows.Layout.{RowsInBlocks, Node, Layout, has_children as layout_has_children}
use Rattle.hse_rows.specs.rows.Job.{keys, values, spill, of_run, Work, ingesting, on_run, Job, claims, claimer}
use Rattle.hse_rows.specs.machine.Core.{Core, now}
use Rattle.hse_rows.specs.rows.Schedule.{least_sets, least_rows, waits as machine_waits, kind_for as machine_kind, whole_run as machine_run}
use Rattle.cn_tree.specs.declared.schedule.PickKind.TheVariants.{Key, KeyValue, Spill}
use Rattle.cn_tree.specs.Tree.{TreeNode, has_children}
use Rattle.cn_tree.specs.Layouts.{node_in, layout_of}
use Rattle.cn_tree.specs.Schedule.{is_claimed, waits, rows_in, kind_for, whole_run, pick_of, next_pick}
use Rattle.cn_tree.specs.Wishes.{nodes_of, claimed_by, claimed_in, run_kind, wish_of, wish_in, IsTreeOf}
use Rattle.cn_tree.proofs.LayoutLemmas.{children-same}

-- ---- claims

claim-same : (id : ℕ) (path : List ℕ) (job : Job) (found : Option Job) (rest : List (List ℕ)) → is_some found ≡ is_claimed rest path
    → (work : Work) → is_some (cond (claims id path work) (Some job) found) ≡ is_claimed (claimed_by id work ++ rest) path
claim-same id path job found rest is ingesting = is
claim-same id path job found rest is (on_run run) =
    elim (run.store == id)
    as (λ b. is_some (cond (b && same run.path path) (Some job) found) ≡ is_claimed (cond b (run.path ∷ []) [] ++ rest) path) [
      | true ↦ elim (same run.path path) as (λ b. is_some (cond b (Some job) found) ≡ (b || is_claimed rest path)) [ true ↦ refl | false ↦ is ]
      | false ↦ is
    ]

claims-same : (jobs : List Job) (id : ℕ) (path : List ℕ) → is_some (claimer jobs id path) ≡ is_claimed (claimed_in jobs id) path
claims-same [] id path = refl
claims-same (job ∷ jobs) id path =
    claim-same id path job (claimer jobs id path) (claimed_in jobs id) (claims-same jobs id path) job.work

-- ---- children

children-of : (layout : Layout) (id : ℕ) (path : List ℕ) → layout_has_children layout id path ≡ layout_has_children (nodes_of layout id) id path
children-of [] id path = refl
children-of (x ∷ xs) id path = by (x.store == id) refl (children-of xs id path)
  where
    by : (b : Bool) → (x.store == id) ≡ b → layout_has_children xs id path ≡ layout_has_children (nodes_of xs id) id path
        → ((b && covers path x.path && not (same path x.path)) || layout_has_children xs id path)
        ≡ layout_has_children (cond b (x ∷ nodes_of xs id) (nodes_of xs id)) id path
    by true is rest =
        ap (λ more. (covers path x.path && not (same path x.path)) || more) rest
        ∙ ap (λ b. (b && covers path x.path && not (same path x.path)) || layout_has_children (nodes_of xs id) id path) (sym is)
    by false is rest = rest

-- ---- one store

module _ {R : Type 0} (rows : R → List Row) (blocks : R → RowsInBlocks) (m : Core) (store : Store)
    (nodes : List (TreeNode R)) (live : store_of (now m) store.id ≡ Some store) (is : IsTreeOf rows blocks m.layout store.id nodes) where
  abbrev claimed : List (List ℕ)
  claimed = claimed_in m.jobs store.id

  abbrev in_layout : TreeNode R → Node
  in_layout = node_in store.id blocks

  and-true : (a b : Bool) → (a && b && true) ≡ (a && b)
  and-true true true = refl
  and-true true false = refl
  and-true false b = refl

  waits-same : (node : TreeNode R) → machine_waits m (in_layout node) ≡ waits claimed node
  waits-same node =
      (λ i. nat_le least_sets (length-map node.sets blocks i) && not (claims-same m.jobs store.id node.path i) && is_some (live i))
      ∙ and-true (nat_le least_sets (length node.sets)) (not (is_claimed claimed node.path))

  found-same : (xs : List (TreeNode R)) → find (machine_waits m) (layout_of store.id blocks xs) ≡ option_map in_layout (find (waits claimed) xs)
  found-same [] = refl
  found-same (x ∷ xs) =
      ap (λ b. cond b (Some (in_layout x)) (find (machine_waits m) (layout_of store.id blocks xs))) (waits-same x)
      ∙ elim (waits claimed x)
      as (λ b. cond b (Some (in_layout x)) (find (machine_waits m) (layout_of store.id blocks xs)) ≡ option_map in_layout (cond b (Some x) (find (waits claimed) xs)))
      [ true ↦ refl | false ↦ found-same xs ]

  rows-from : (sets : List R) (n : ℕ) → fold (λ a (set : RowsInBlocks). a + length set.rows) n (map blocks sets) ≡ fold (λ a (set : List Row). a + length set) n (map rows sets)
  rows-from [] n = refl
  rows-from (set ∷ sets) n =
      ap (λ (l : List Row). fold (λ a (set : RowsInBlocks). a + length set.rows) (n + length l) (map blocks sets)) (is.hold set)
      ∙ rows-from sets (n + length (rows set))

  rows-same : (sets : List R) → sum_by (λ (set : RowsInBlocks). length set.rows) (map blocks sets) ≡ rows_in (map rows sets)
  rows-same sets = rows-from sets 0

  below-same : (path : List ℕ) → layout_has_children m.layout store.id path ≡ has_children nodes path
  below-same path =
      children-of m.layout store.id path ∙ ap (λ (l : Layout). layout_has_children l store.id path) is.same_nodes
      ∙ children-same store.id blocks nodes path

  kind-by : (big below : Bool) → (if big then spill else (if below then keys else values)) ≡ run_kind (if big then Spill else (if below then Key else KeyValue))
  kind-by true below = refl
  kind-by false true = refl
  kind-by false false = refl

  kind-same : (node : TreeNode R) → machine_kind m (in_layout node) ≡ run_kind (kind_for rows nodes node)
  kind-same node =
      (λ i. if nat_le least_rows (rows-same node.sets i) && nat_lt (length node.path) greatest_depth then spill
      else (if below-same node.path i then keys else values))
      ∙ kind-by (nat_le least_rows (rows_in (map rows node.sets)) && nat_lt (length node.path) greatest_depth) (has_children nodes node.path)

  run-same : (node : TreeNode R) → machine_run m (in_layout node) ≡ Some (wish_of store.name (whole_run rows nodes node))
  run-same node =
      ap (λ found. for_some found None (λ (s : Store). Some (of_run (machine_kind m (in_layout node)) s.name node.path 0 (length (map blocks node.sets))))) live
      ∙ (λ i. Some (of_run (kind-same node i) store.name node.path 0 (length-map node.sets blocks i)))

  picked-same : (found : Option (TreeNode R)) → for_some (option_map in_layout found) None (machine_run m) ≡ option_map (wish_of store.name) (pick_of rows nodes found)
  picked-same None = refl
  picked-same (Some node) = run-same node

  pub pick-wish : wish_in m store.id ≡ option_map (wish_of store.name) (next_pick rows nodes claimed)
  pick-wish =
      ap (λ (l : Layout). for_some (find (machine_waits m) l) None (machine_run m)) is.same_nodes
      ∙ ap (λ found. for_some found None (machine_run m)) (found-same nodes)
      ∙ picked-same (find (waits claimed) nodes)
