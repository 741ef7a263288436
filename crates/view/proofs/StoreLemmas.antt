-- Stores that come to a view, and that leave it.
use Rattle.std.proofs.Common.{◌≡◌, ℕ, ◌+◌, ◌≤◌, ◌<◌, ◌==◌, Bool, true, false, cond, not, ◌||◌, List, [], ◌∷◌, ◌++◌, map, refl, sym, ap, ◌∙◌, subst, true≢false, Option, Some, None, arith}
use Rattle.std.proofs.lemmas.List.{map-append}
use Rattle.std.proofs.lemmas.Grind.{flat_map-append}
use Rattle.std.specs.List.{AllByRecursion, filter, list_any}
use Rattle.std.specs.FinMap as fin_map
use Rattle.hse_rows.specs.declared.row.Row.{Row}
use Rattle.hse_rows.specs.writes.NormalForm.{same}
use Rattle.hse_rows.specs.rows.Meaning.{contents_of}
use Rattle.hse_rows.specs.states.State.{Store}
use Rattle.hse_rows.specs.states.History.{creates, drops, happened, new_store, without}
use Rattle.row_laws.specs.Sources.{all_rows, AreLayersOver}
use Rattle.ingest_tree.specs.declared.store_row.StoreRow.{StoreRow}
use Rattle.ingest_tree.specs.Rows.{rows_in}
use Rattle.cn_tree.specs.Tree as trees
use Rattle.sorted_lists.specs.laws.Lists.{each-weaker, each-append, each-front, each-rest, each-last, each-filter}
use Rattle.view.specs.declared.view_store.ViewStore.{ViewStore}
use Rattle.view.specs.Views.{ViewState}
use Rattle.view.specs.Routed.{tree_rows, IsRouted}
use Rattle.view.specs.Means.{layer_rows, AreApart, set_rows, store_rows, store_in, state_of, IsView}
use Rattle.view.specs.Stores.{with_store, without_store, IsCreated}
use Rattle.view.specs.Laws.{StoresComeAndGo}

-- ---- names and ids

none-push : {R : Type 0} (p : ViewStore R → Bool) (stores : List (ViewStore R)) (store : ViewStore R)
    → list_any p stores ≡ false → p store ≡ false → list_any p (stores ++ store ∷ []) ≡ false
none-push p [] store none off = ap (λ b. b || false) off
none-push p (one ∷ stores) store none off = by (p one) none (λ rest. none-push p stores store rest off)
  where
    by : (b : Bool) → (b || list_any p stores) ≡ false
        → (list_any p stores ≡ false → list_any p (stores ++ store ∷ []) ≡ false)
        → (b || list_any p (stores ++ store ∷ [])) ≡ false
    by true none more = none
    by false none more = more none

apart-push : {R : Type 0} (stores : List (ViewStore R)) (store : ViewStore R) → AreApart stores
    → AllByRecursion (λ (other : ViewStore R). same store.name other.name ≡ false) stores
    → AllByRecursion (λ (other : ViewStore R). (store.id.0 == other.id.0) ≡ false) stores
    → AreApart (stores ++ store ∷ [])
apart-push [] store apart names ids = (refl, refl, tt)
apart-push {R} (one ∷ stores) store apart names ids = (
  none-push (λ (other : ViewStore R). same other.name one.name) stores store apart.0 names.0,
  none-push (λ (other : ViewStore R). other.id.0 == one.id.0) stores store apart.1 ids.0,
  apart-push stores store apart.2 names.1 ids.1,
)

none-filter : {R : Type 0} (p q : ViewStore R → Bool) (stores : List (ViewStore R))
    → list_any p stores ≡ false → list_any p (filter q stores) ≡ false
none-filter p q [] none = refl
none-filter p q (one ∷ stores) none =
    elim (q one) as (λ b. list_any p (cond b (one ∷ filter q stores) (filter q stores)) ≡ false)
    [ true ↦ kept (p one) none (none-filter p q stores) | false ↦ none-filter p q stores (rest (p one) none) ]
  where
    rest : (b : Bool) → (b || list_any p stores) ≡ false → list_any p stores ≡ false
    rest true none = absurd (true≢false none)
    rest false none = none

    kept : (b : Bool) → (b || list_any p stores) ≡ false
        → (list_any p stores ≡ false → list_any p (filter q stores) ≡ false) → (b || list_any p (filter q stores)) ≡ false
    kept true none more = none
    kept false none more = more none

apart-filter : {R : Type 0} (q : ViewStore R → Bool) (stores : List (ViewStore R)) → AreApart stores → AreApart (filter q stores)
apart-filter q [] apart = tt
apart-filter {R} q (one ∷ stores) apart =
    elim (q one) as (λ b. AreApart (cond b (one ∷ filter q stores) (filter q stores))) [
      | true ↦ (
        none-filter (λ (other : ViewStore R). same other.name one.name) q stores apart.0,
        none-filter (λ (other : ViewStore R). other.id.0 == one.id.0) q stores apart.1,
        apart-filter q stores apart.2,
      )
      | false ↦ apart-filter q stores apart.2
    ]

-- ---- layers over fewer rows

layers-fewer : (far fewer : List Row) → ((P : Row → Type 0) → AllByRecursion P far → AllByRecursion P fewer)
    → (layers : List (List Row)) → AreLayersOver far layers → AreLayersOver fewer layers
layers-fewer far fewer less [] over = tt
layers-fewer far fewer less (rows ∷ layers) over = (
  each-weaker
      (λ (row : Row) above. each-append (λ (other : Row). other.number < row.number) (all_rows layers) fewer
      (each-front (λ (other : Row). other.number < row.number) (all_rows layers) far above)
      (less (λ (other : Row). other.number < row.number) (each-rest (λ (other : Row). other.number < row.number) (all_rows layers) far above)))
      rows over.0,
  layers-fewer far fewer less layers over.1,
)

no-rows : (id : ℕ) (layers : List (List StoreRow)) → AllByRecursion (λ (layer : List StoreRow). rows_in id layer ≡ []) layers
    → all_rows (map (rows_in id) layers) ≡ []
no-rows id [] none = refl
no-rows id (layer ∷ layers) none = ap (λ (l : List Row). l ++ all_rows (map (rows_in id) layers)) none.0 ∙ no-rows id layers none.1

append-none : (xs : List Row) → xs ++ [] ≡ xs
append-none [] = refl
append-none (x ∷ xs) = ap (λ (l : List Row). x ∷ l) (append-none xs)

module _ {R : Type 0} (rows : R → List Row) where
  without-rows : (p : ViewStore R → Bool) (P : Row → Type 0) (stores : List (ViewStore R))
      → AllByRecursion P (set_rows rows stores) → AllByRecursion P (set_rows rows (filter p stores))
  without-rows p P [] all = tt
  without-rows p P (one ∷ stores) all =
      elim (p one) as (λ b. AllByRecursion P (set_rows rows (cond b (one ∷ filter p stores) (filter p stores)))) [
        | true ↦ each-append P (tree_rows rows one.tree) (set_rows rows (filter p stores))
            (each-front P (tree_rows rows one.tree) (set_rows rows stores) all)
            (without-rows p P stores (each-rest P (tree_rows rows one.tree) (set_rows rows stores) all))
        | false ↦ without-rows p P stores (each-rest P (tree_rows rows one.tree) (set_rows rows stores) all)
      ]

  empty-routed : (prefix : ℕ) → IsRouted rows prefix (record { prefix_length = prefix; nodes = [] })
  unfolding trees.sets_on
  empty-routed prefix = record { prefix = refl; stands = tt; falls = λ key. tt; shown = λ key own is. absurd (let e : None ≡ Some own = is in cc) }

  module _ (view : ViewState R) (is : IsView rows view) where
    abbrev near : List Row
    near = all_rows (map layer_rows view.layers)

    abbrev sets : List Row
    sets = set_rows rows view.stores

    higher : (xs : List Row) → AllByRecursion (λ (row : Row). row.number ≤ view.number) xs → AllByRecursion (λ (row : Row). row.number ≤ view.number + 1) xs
    higher = each-weaker (λ (row : Row) less. omega (arith, less))

    module _ (store : ViewStore R) (created : IsCreated view store) where
      no-sets : tree_rows rows store.tree ≡ []
      no-sets = ap (tree_rows rows) created.empty

      same-sets : set_rows rows (view.stores ++ store ∷ []) ≡ sets
      same-sets =
          flat_map-append (λ (s : ViewStore R). tree_rows rows s.tree) view.stores (store ∷ [])
          ∙ ap (λ (l : List Row). sets ++ (l ++ [])) no-sets ∙ append-none sets

      created-view : IsView rows (with_store view store)
      created-view = record {
        apart = apart-push view.stores store is.apart created.named created.apart;
        numbers =
            subst (λ (l : List Row). AllByRecursion (λ (row : Row). row.number ≤ view.number + 1) (near ++ l)) (sym same-sets)
            (higher (near ++ sets) is.numbers);
        layers = subst (λ (l : List Row). AreLayersOver l (map layer_rows view.layers)) (sym same-sets) is.layers;
        routed = each-last (λ (s : ViewStore R). IsRouted rows s.prefix s.tree) view.stores store is.routed
            (subst (IsRouted rows store.prefix) (sym created.empty) (empty-routed store.prefix));
      }

      new-store : store_in rows view.layers store ≡ new_store (view.number + 1) store.name store.mode store.prefix
      unfolding contents_of
      new-store =
          let none : store_rows rows view.layers store ≡ [] =
          ap (λ (l : List Row). l ++ tree_rows rows store.tree) (no-rows store.id.0 view.layers created.unwritten) ∙ no-sets in
          λ i. record {
            id = created.numbered i;
            name = store.name;
            mode = store.mode;
            prefix_length = store.prefix;
            contents = ap contents_of none i;
          }

      created-state : state_of rows (with_store view store) ≡ happened (state_of rows view) (creates store.name store.mode store.prefix)
      created-state = λ i. record {
        number = view.number + 1;
        stores =
            (map-append (store_in rows view.layers) view.stores (store ∷ [])
            ∙ ap (λ (s : Store). map (store_in rows view.layers) view.stores ++ s ∷ []) new-store) i;
      }

    module _ (id : ℕ) where
      abbrev stays : ViewStore R → Bool
      stays store = not (store.id.0 == id)

      dropped-view : IsView rows (without_store view id)
      dropped-view = record {
        apart = apart-filter stays view.stores is.apart;
        numbers =
            each-append (λ (row : Row). row.number ≤ view.number + 1) near (set_rows rows (filter stays view.stores))
            (higher near (each-front (λ (row : Row). row.number ≤ view.number) near sets is.numbers))
            (without-rows stays (λ (row : Row). row.number ≤ view.number + 1) view.stores
            (higher sets (each-rest (λ (row : Row). row.number ≤ view.number) near sets is.numbers)));
        layers = layers-fewer sets (set_rows rows (filter stays view.stores)) (λ P. without-rows stays P view.stores) (map layer_rows view.layers) is.layers;
        routed = each-filter (λ (s : ViewStore R). IsRouted rows s.prefix s.tree) stays view.stores is.routed;
      }

      map-stays : (stores : List (ViewStore R))
          → map (store_in rows view.layers) (filter stays stores) ≡ without id (map (store_in rows view.layers) stores)
      map-stays [] = refl
      map-stays (one ∷ stores) =
          elim (stays one)
          as (λ b. map (store_in rows view.layers) (cond b (one ∷ filter stays stores) (filter stays stores))
          ≡ cond b (store_in rows view.layers one ∷ without id (map (store_in rows view.layers) stores)) (without id (map (store_in rows view.layers) stores)))
          [ true ↦ ap (λ (l : List Store). store_in rows view.layers one ∷ l) (map-stays stores) | false ↦ map-stays stores ]

      dropped-state : state_of rows (without_store view id) ≡ happened (state_of rows view) (drops id)
      dropped-state = λ i. record { number = view.number + 1; stores = map-stays view.stores i }

  pub stores-come_and_go : StoresComeAndGo R rows
  stores-come_and_go = record {
    come = λ view store is created. (created-view view is store created, created-state view is store created);
    go = λ view id is. (dropped-view view is id, dropped-state view is id);
  }
