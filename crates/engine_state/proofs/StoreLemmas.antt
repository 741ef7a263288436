-- Views with a store more, and with a store less.
use Rattle.std.proofs.Common.{◌≡◌, ◌≤◌, ◌<◌, ◌+◌, ◌==◌, ◌||◌, ◌&&◌, refl, sym, ap, ◌∙◌, subst, arith, ℕ, zero, suc, Bool, true, false, cond, not, List, [], ◌∷◌, ◌++◌, append_assoc, length, map, drop, slice_get, Some, None}
use Rattle.std.proofs.lemmas.Bool.Decides.{nat_tests}
use Rattle.std.proofs.Math.ListN.{drop_of_length-le}
use Rattle.std.proofs.lemmas.Grind.{flat_map-append}
use Rattle.std.proofs.lemmas.Option.{same_Some}
use Rattle.std.specs.List.{AllByRecursion, find, list_any}
use Rattle.sorted_lists.specs.laws.Lists.{each-weaker, each-filter, each-last, filter-all, filter-none}
use Rattle.hse_rows.specs.declared.row.Row.{Row}
use Rattle.hse_rows.specs.declared.row_set.RowSet.{Ghosts}
use Rattle.hse_rows.specs.declared.store.Mode.{Mode}
use Rattle.hse_rows.specs.writes.NormalForm.{same}
use Rattle.hse_rows.specs.states.State.{State, IsState, AreRising}
use Rattle.hse_rows.specs.states.History.{creates, drops, happened}
use Rattle.hse_rows.specs.laws.Folding.{folded_push}
use Rattle.hse_rows.specs.transactions.Moves as moves
use Rattle.hse_rows.specs.machine.Core.{Core, with_move}
use Rattle.row_laws.specs.Sources.{all_rows, AreLayersOver}
use Rattle.ingest_tree.specs.declared.store_row.StoreRow.{StoreRow}
use Rattle.ingest_tree.specs.Rows.{rows_in}
use Rattle.cn_tree.specs.Tree as trees
use Rattle.cn_tree.specs.Tree.{TreeState}
use Rattle.view.specs.declared.view_store.ViewStore.{ViewStore}
use Rattle.view.specs.Views.{ViewState}
use Rattle.view.specs.Routed.{tree_rows, IsRouted}
use Rattle.view.specs.Means.{layer_rows, AreApart, set_rows, store_in, state_of, IsView}
use Rattle.view.specs.Stores.{without_store, IsCreated}
use Rattle.view.specs.Laws.{StoresComeAndGo}
use Rattle.engine_state.specs.Serves.{IsSound, AreOfStores, ViewServes}
use Rattle.engine_state.specs.Stores.{but, new_in, with_new}
use Rattle.engine_state.proofs.CommitLemmas.{higher}

-- ---- names and ids

same-turned : (xs ys : List ℕ) → same xs ys ≡ same ys xs
same-turned [] [] = refl
same-turned [] (y ∷ ys) = refl
same-turned (x ∷ xs) [] = refl
same-turned (x ∷ xs) (y ∷ ys) =
    let one : (x == y) ≡ (y == x) = grind (arith, nat_tests) in
    ap (λ b. b && same xs ys) one ∙ ap (λ b. (y == x) && b) (same-turned xs ys)

-- where no store of a name is found, each has another
pub other-names : {R : Type 0} (name : List ℕ) (stores : List (ViewStore R)) → find (λ (store : ViewStore R). same store.name name) stores ≡ None
    → AllByRecursion (λ (other : ViewStore R). same name other.name ≡ false) stores
other-names name [] none = tt
other-names {R} name (one ∷ stores) none = by (same one.name name) refl none (other-names name stores)
  where
    by : (b : Bool) → same one.name name ≡ b → cond b (Some one) (find (λ (store : ViewStore R). same store.name name) stores) ≡ None
        → (find (λ (store : ViewStore R). same store.name name) stores ≡ None
        → AllByRecursion (λ (other : ViewStore R). same name other.name ≡ false) stores)
        → (same name one.name ≡ false) × AllByRecursion (λ (other : ViewStore R). same name other.name ≡ false) stores
    by true is none more = absurd (let e : Some one ≡ None = none in cc)
    by false is none more = (same-turned name one.name ∙ is, more none)

other-ids : {R : Type 0} (id : ℕ) (stores : List (ViewStore R)) → AllByRecursion (λ (other : ViewStore R). (id == other.id.0) ≡ false) (but id stores)
other-ids id [] = tt
other-ids {R} id (one ∷ stores) = by (one.id.0 == id) refl (other-ids id stores)
  where
    by : (b : Bool) → (one.id.0 == id) ≡ b
        → AllByRecursion (λ (other : ViewStore R). (id == other.id.0) ≡ false) (but id stores)
        → AllByRecursion (λ (other : ViewStore R). (id == other.id.0) ≡ false) (cond (not b) (one ∷ but id stores) (but id stores))
    by true is rest = rest
    by false is rest = (grind (arith, nat_tests, is), rest)

none-push : {R : Type 0} (p : ViewStore R → Bool) (stores : List (ViewStore R)) (store : ViewStore R)
    → list_any p stores ≡ false → p store ≡ false → list_any p (stores ++ store ∷ []) ≡ false
none-push p [] store none off = ap (λ b. b || false) off
none-push p (one ∷ stores) store none off = by (p one) none (λ rest. none-push p stores store rest off)
  where
    by : (b : Bool) → (b || list_any p stores) ≡ false
        → (list_any p stores ≡ false → list_any p (stores ++ store ∷ []) ≡ false)
        → (b || list_any p (stores ++ store ∷ [])) ≡ false
    by true none more = none
    by false none more = more none

apart-push : {R : Type 0} (stores : List (ViewStore R)) (store : ViewStore R) → AreApart stores
    → AllByRecursion (λ (other : ViewStore R). same store.name other.name ≡ false) stores
    → AllByRecursion (λ (other : ViewStore R). (store.id.0 == other.id.0) ≡ false) stores
    → AreApart (stores ++ store ∷ [])
apart-push [] store apart names ids = (refl, refl, tt)
apart-push {R} (one ∷ stores) store apart names ids = (
  none-push (λ (other : ViewStore R). same other.name one.name) stores store apart.0 names.0,
  none-push (λ (other : ViewStore R). other.id.0 == one.id.0) stores store apart.1 ids.0,
  apart-push stores store apart.2 names.1 ids.1,
)

-- ---- layers

drop-at : (layers : List (List StoreRow)) (place : ℕ) (layer : List StoreRow) → slice_get layers place ≡ Some layer
    → drop place layers ≡ layer ∷ drop (suc place) layers
drop-at [] place layer at = absurd (let e : None ≡ Some layer = at in cc)
drop-at (one ∷ layers) zero layer at = ap (λ (l : List StoreRow). l ∷ layers) (same_Some one layer at)
drop-at (one ∷ layers) (suc place) layer at = drop-at layers place layer at

-- one layer more is shared
pub layer-step : (done layers : List (List StoreRow)) (place : ℕ) (layer : List StoreRow) → slice_get layers place ≡ Some layer
    → (done ++ layer ∷ []) ++ drop (place + 1) layers ≡ done ++ drop place layers
layer-step done layers place layer at =
    let next : place + 1 ≡ suc place = omega arith in
    append_assoc done (layer ∷ []) (drop (place + 1) layers)
    ∙ ap (λ (n : ℕ). done ++ layer ∷ drop n layers) next
    ∙ ap (λ (l : List (List StoreRow)). done ++ l) (sym (drop-at layers place layer at))

-- within the layers there is one
pub no-layer : (layers : List (List StoreRow)) (place : ℕ) → place < length layers → slice_get layers place ≡ None → ⊥
no-layer [] place less at = omega (arith, less)
no-layer (one ∷ layers) zero less at = let e : Some one ≡ None = at in cc
no-layer (one ∷ layers) (suc place) less at = no-layer layers place (omega (arith, less)) at

pub layer-end : (done layers : List (List StoreRow)) (place : ℕ) → length layers ≤ place → done ++ drop place layers ≡ done
layer-end done layers place past =
    ap (λ (l : List (List StoreRow)). done ++ l) (drop_of_length-le layers past) ∙ none done
  where
    none : (xs : List (List StoreRow)) → xs ++ [] ≡ xs
    none [] = refl
    none (x ∷ xs) = ap (λ (l : List (List StoreRow)). x ∷ l) (none xs)

-- the active layer in front of the frozen ones
pub whole-layers : (layers frozen : List (List StoreRow)) (active layer : List StoreRow) → Some layer ≡ slice_get layers 0 → active ≡ layer
    → frozen ≡ drop 1 layers → active ∷ frozen ≡ layers
whole-layers [] frozen active layer at is rest = absurd (let e : Some layer ≡ None = at in cc)
whole-layers (one ∷ layers) frozen active layer at is rest =
    ap (λ (l : List StoreRow). l ∷ frozen) (is ∙ same_Some layer one at) ∙ ap (λ (l : List (List StoreRow)). one ∷ l) rest

-- the stores with a new one
pub whole-stores : {R : Type 0} (view : ViewState R) (kept after stores : List (ViewStore R)) (number : ℕ) (text name : List ℕ) (mode : Mode) (prefix : ℕ)
    (tree : TreeState R) → after ≡ kept ++ record { name = text; id = record { 0 = number + 1 }; mode = mode; prefix = prefix; tree = tree } ∷ []
    → kept ≡ but (number + 1) stores → stores ≡ view.stores → number ≡ view.number → text ≡ name → tree ≡ record { prefix_length = prefix; nodes = [] }
    → after ≡ but (view.number + 1) view.stores ++ new_in view name mode prefix ∷ []
whole-stores {R} view kept after stores number text name mode prefix tree pushed all same last called empty =
    let store : ViewStore R = record { name = text; id = record { 0 = number + 1 }; mode = mode; prefix = prefix; tree = tree } in
    let new : store ≡ new_in view name mode prefix =
    λ i. record { name = called i; id = record { 0 = last i + 1 }; mode = mode; prefix = prefix; tree = empty i } in
    pushed
    ∙ ap (λ (l : List (ViewStore R)). l ++ store ∷ []) (all ∙ ap (but (number + 1)) same ∙ ap (λ (n : ℕ). but (n + 1) view.stores) last)
    ∙ ap (λ (s : ViewStore R). but (view.number + 1) view.stores ++ s ∷ []) new

append-none : (xs : List Row) → xs ++ [] ≡ xs
append-none [] = refl
append-none (x ∷ xs) = ap (λ (l : List Row). x ∷ l) (append-none xs)

-- a layer of stores up to a number has no row of the next
pub unwritten : (number : ℕ) (layers : List (List StoreRow)) → AreOfStores number layers
    → AllByRecursion (λ (layer : List StoreRow). rows_in (number + 1) layer ≡ []) layers
unwritten number = each-weaker (λ (layer : List StoreRow) all.
    ap (map (λ (row : StoreRow). row.row))
    (filter-none (λ (row : StoreRow). row.store.0 == number + 1) layer
    (each-weaker (λ (row : StoreRow) less. grind (arith, nat_tests, less)) layer all)))

module _ {R : Type 0} (rows : R → List Row) where
  empty-routed : (prefix : ℕ) → IsRouted rows prefix (record { prefix_length = prefix; nodes = [] })
  unfolding trees.sets_on
  empty-routed prefix = record { prefix = refl; stands = tt; falls = λ key. tt; shown = λ key own is. absurd (let e : None ≡ Some own = is in cc) }

  -- one more store without sets
  pushed : (view : ViewState R) (store : ViewStore R) → IsView rows view
      → AllByRecursion (λ (other : ViewStore R). same store.name other.name ≡ false) view.stores
      → AllByRecursion (λ (other : ViewStore R). (store.id.0 == other.id.0) ≡ false) view.stores
      → store.tree ≡ record { prefix_length = store.prefix; nodes = [] }
      → IsView rows (record { number = view.number; stores = view.stores ++ store ∷ []; layers = view.layers })
  pushed view store is names ids empty =
      let none : tree_rows rows store.tree ≡ [] = ap (tree_rows rows) empty in
      let sets : set_rows rows (view.stores ++ store ∷ []) ≡ set_rows rows view.stores =
      flat_map-append (λ (s : ViewStore R). tree_rows rows s.tree) view.stores (store ∷ [])
      ∙ ap (λ (l : List Row). set_rows rows view.stores ++ (l ++ [])) none ∙ append-none (set_rows rows view.stores) in
      record {
        apart = apart-push view.stores store is.apart names ids;
        numbers =
            subst (λ (l : List Row). AllByRecursion (λ (row : Row). row.number ≤ view.number) (all_rows (map layer_rows view.layers) ++ l)) (sym sets) is.numbers;
        layers = subst (λ (l : List Row). AreLayersOver l (map layer_rows view.layers)) (sym sets) is.layers;
        routed = each-last (λ (s : ViewStore R). IsRouted rows s.prefix s.tree) view.stores store is.routed
            (subst (IsRouted rows store.prefix) (sym empty) (empty-routed store.prefix));
      }

  pub new-view : StoresComeAndGo R rows → (view : ViewState R) (name : List ℕ) (mode : Mode) (prefix : ℕ) → IsView rows view
      → find (λ (store : ViewStore R). same store.name name) view.stores ≡ None
      → IsView rows (with_new view (new_in view name mode prefix))
  new-view law view name mode prefix is none =
      let id = view.number + 1 in
      pushed (without_store view id) (new_in view name mode prefix) (law.go view id is).0
      (each-filter (λ (other : ViewStore R). same name other.name ≡ false) (λ (other : ViewStore R). not (other.id.0 == id)) view.stores (other-names name view.stores none))
      (other-ids id view.stores) refl

  -- ids of stores that rise up to a number
  low-ids : (layers : List (List StoreRow)) (low number : ℕ) (stores : List (ViewStore R)) → AreRising low number (map (store_in rows layers) stores)
      → AllByRecursion (λ (store : ViewStore R). store.id.0 ≤ number) stores
  low-ids layers low number [] rising = tt
  low-ids layers low number (store ∷ stores) rising = (rising.1, low-ids layers store.id.0 number stores rising.2)

module _ {R : Type 0} (g : Ghosts R) where
  -- in a state no store has the next number
  ids-of : (view : ViewState R) (m : Core) → IsSound m → ViewServes g view m → AllByRecursion (λ (store : ViewStore R). store.id.0 ≤ view.number) view.stores
  ids-of view m sound v =
      let is : IsState (state_of g.rows view) = subst IsState (sym v.state) sound.stands.now in
      low-ids g.rows view.layers 0 view.number view.stores is.rising

  pub created : StoresComeAndGo R g.rows → (view : ViewState R) (m : Core) → IsSound m → IsView g.rows view → ViewServes g view m
      → (name : List ℕ) (mode : Mode) (prefix : ℕ) → find (λ (store : ViewStore R). same store.name name) view.stores ≡ None
      → ViewServes g (with_new view (new_in view name mode prefix)) (with_move m (moves.create name mode prefix))
  created law view m sound is v name mode prefix none =
      let id = view.number + 1 in
      let store : ViewStore R = new_in view name mode prefix in
      let ids = ids-of view m sound v in
      let all : but id view.stores ≡ view.stores =
      filter-all (λ (other : ViewStore R). not (other.id.0 == id)) view.stores
      (each-weaker (λ (other : ViewStore R) less. grind (arith, nat_tests, less)) view.stores ids) in
      let made : IsCreated view store = record {
        numbered = refl;
        named = other-names name view.stores none;
        apart = each-weaker (λ (other : ViewStore R) less. grind (arith, nat_tests, less)) view.stores ids;
        unwritten = unwritten view.number view.layers v.stores;
        empty = refl;
      } in
      record {
        state =
            ap (λ (l : List (ViewStore R)). state_of g.rows (record { number = id; stores = l ++ store ∷ []; layers = view.layers })) all
            ∙ (law.come view store is made).1
            ∙ ap (λ (s : State). happened s (creates name mode prefix)) v.state
            ∙ sym (folded_push m.timeline.base m.timeline.history (creates name mode prefix));
        stores = higher view.number id (omega arith) view.layers v.stores;
      }

  pub dropped : StoresComeAndGo R g.rows → (view : ViewState R) (m : Core) → IsView g.rows view → ViewServes g view m
      → (id : ℕ) → ViewServes g (without_store view id) (with_move m (moves.remove id))
  dropped law view m is v id = record {
    state =
        (law.go view id is).1 ∙ ap (λ (s : State). happened s (drops id)) v.state
        ∙ sym (folded_push m.timeline.base m.timeline.history (drops id));
    stores = higher view.number (view.number + 1) (omega arith) view.layers v.stores;
  }
