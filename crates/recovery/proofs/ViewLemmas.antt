-- The view that an opening gives, and the state that it means.
use Rattle.std.proofs.Common.{◌≡◌, ◌≢◌, ◌∙◌, ℕ, ◌<◌, ◌≤◌, ◌==◌, ◌||◌, Bool, true, false, List, [], ◌∷◌, ◌++◌, map, Some, None, refl, sym, ap, subst, arith}
use Rattle.std.specs.FinMap as fin_map
use Rattle.std.specs.List.{AllByRecursion, list_any}
use Rattle.std.proofs.lemmas.Bool.{ne_eqb}
use Rattle.std.proofs.lemmas.List.{append-nil}
use Rattle.hse_fields.specs.LogText.{Entry}
use Rattle.hse_fields.specs.LogReading.{Follow}
use Rattle.hse_rows.specs.declared.row.Row.{Row}
use Rattle.hse_rows.specs.writes.NormalForm.{same}
use Rattle.hse_rows.specs.rows.Meaning.{contents_of}
use Rattle.hse_rows.specs.states.State.{Contents, contents_after_all}
use Rattle.ingest_tree.specs.declared.store_row.StoreRow.{StoreRow}
use Rattle.ingest_tree.specs.Rows.{rows_in}
use Rattle.cn_tree.specs.Tree.{TreeState, sets_on}
use Rattle.sorted_lists.specs.laws.Lists.{each-append}
use Rattle.manifest.specs.Metadata as manifest
use Rattle.manifest.specs.Metadata.{LiveStore, AreRising, AreNamedApart, is_used}
use Rattle.view.specs.Laws.{LayersTakeWrites}
use Rattle.view.specs.Layers.{row-each}
use Rattle.view.specs.Means.{AreApart, IsView, layer_rows, set_rows, state_of}
use Rattle.view.specs.Means as view
use Rattle.view.specs.Routed.{IsRouted, IsShown}
use Rattle.view.specs.declared.view_store.ViewStore.{ViewStore}
use Rattle.wal.specs.Numbering.{Numbers, numbering}
use Rattle.wal.specs.declared.live.StorePrefix.{StorePrefix}
use Rattle.recovery.specs.Layer.{IsOrderly, layer_after}
use Rattle.recovery.specs.Opened.{empty_store, opened_view}
use Rattle.recovery.specs.Stored as stored
use Rattle.recovery.specs.Stored.{writes_in}
use Rattle.recovery.proofs.LayerLemmas.{layer_means}

or_none : (a b : Bool) → a ≡ false → b ≡ false → (a || b) ≡ false
or_none false b p q = q
or_none true b p q = absurd cc

-- ---- a tree without sets

none_given : (own : Row) → None ≡ Some own → ⊥
none_given own is = cc

module _ {R : Type 0} (rows : R → List Row) where
  abbrev bare : ℕ → TreeState R
  bare prefix = record { prefix_length = prefix; nodes = [] }

  bare_shown : (prefix : ℕ) (key : List ℕ) → IsShown rows (bare prefix) key
  bare_shown prefix key own is below = absurd (none_given own is)

  bare_routed : (prefix : ℕ) → IsRouted rows prefix (bare prefix)
  unfolding sets_on
  bare_routed prefix = record { prefix = refl; stands = tt; falls = λ key. tt; shown = bare_shown prefix }

  -- ---- stores without sets

  all_routed : (stores : List LiveStore) → AllByRecursion (λ (store : ViewStore R). IsRouted rows store.prefix store.tree) (map (empty_store R) stores)
  all_routed [] = tt
  all_routed (store ∷ stores) = (bare_routed store.prefix_length, all_routed stores)

  no_sets : (stores : List LiveStore) → set_rows rows (map (empty_store R) stores) ≡ []
  no_sets [] = refl
  no_sets (store ∷ stores) = no_sets stores

  named_alike : (name : List ℕ) (stores : List LiveStore)
      → list_any (λ (other : ViewStore R). same other.name name) (map (empty_store R) stores) ≡ is_used name stores
  named_alike name [] = refl
  named_alike name (store ∷ stores) = ap (λ (b : Bool). same store.name name || b) (named_alike name stores)

  no_id : (id low number : ℕ) (stores : List LiveStore) → id ≤ low → AreRising low number stores
      → list_any (λ (other : ViewStore R). other.id.0 == id) (map (empty_store R) stores) ≡ false
  no_id id low number [] le rising = refl
  no_id id low number (store ∷ stores) le rising =
      or_none (store.id == id) (list_any (λ (other : ViewStore R). other.id.0 == id) (map (empty_store R) stores))
      (ne_eqb store.id id (other store.id id (omega (arith, le, rising.0))))
      (no_id id store.id number stores (omega (arith, le, rising.0)) rising.2)
    where
      other : (a b : ℕ) → b < a → a ≢ b
      other a b lt = omega arith

  all_apart : (low number : ℕ) (stores : List LiveStore) → AreRising low number stores → AreNamedApart stores → AreApart (map (empty_store R) stores)
  all_apart low number [] rising named = tt
  all_apart low number (store ∷ stores) rising named = (
    named_alike store.name stores ∙ named.0,
    no_id store.id store.id number stores (omega arith) rising.2,
    all_apart store.id number stores rising.2 named.1,
  )

  -- ---- the view

  each-any : (P : Row → Type 0) → ((row : Row) → P row) → (xs : List Row) → AllByRecursion P xs
  each-any P all [] = tt
  each-any P all (x ∷ xs) = (all x, each-any P all xs)

  pub is_view : (m : manifest.Metadata) (number : ℕ) (layer : List StoreRow) → manifest.AreApart m
      → AllByRecursion (λ (row : StoreRow). row.row.number ≤ number) layer → IsView rows (opened_view R number m.stores layer)
  is_view m number layer apart low =
      let sets = set_rows rows (map (empty_store R) m.stores) in
      let none : set_rows rows (map (empty_store R) m.stores) ≡ [] = no_sets m.stores in
      record {
        apart = all_apart 0 (manifest.last_known m) m.stores apart.rising apart.named;
        numbers =
            each-append (λ (row : Row). row.number ≤ number) (layer_rows layer ++ []) (set_rows rows (map (empty_store R) m.stores))
            (each-append (λ (row : Row). row.number ≤ number) (layer_rows layer) [] (row-each (λ (row : Row). row.number ≤ number) layer low) tt)
            (subst (AllByRecursion (λ (row : Row). row.number ≤ number)) (sym none) tt);
        layers = (
          each-any _ (λ row. subst (AllByRecursion (λ (other : Row). other.number < row.number)) (sym none) tt) (layer_rows layer),
          tt,
        );
        routed = all_routed m.stores;
      }

  -- ---- the state

  nothing : contents_of [] ≡ fin_map.empty
  unfolding contents_of
  nothing = refl

  module _ (take : LayersTakeWrites) (live : List StorePrefix) (state last : Numbers) (entries : List Entry)
      (follow : Follow (numbering live) state entries last) (orderly : AllByRecursion IsOrderly entries) where
    store_means : (store : LiveStore)
        → view.store_in rows (layer_after [] entries ∷ []) (empty_store R store) ≡ stored.store_in entries store
    store_means store =
        let id = store.id in
        let contents : contents_of ((rows_in store.id (layer_after [] entries) ++ []) ++ []) ≡ contents_after_all store.id fin_map.empty (writes_in entries) =
        ap contents_of (append-nil (rows_in store.id (layer_after [] entries) ++ []))
        ∙ layer_means take live store.id state last entries follow orderly [] tt
        ∙ ap (λ (c : Contents). contents_after_all store.id c (writes_in entries)) nothing in
        λ i. record { id = store.id; name = store.name; mode = store.mode; prefix_length = store.prefix_length; contents = contents i }

    stores_mean : (stores : List LiveStore)
        → map (view.store_in rows (layer_after [] entries ∷ [])) (map (empty_store R) stores) ≡ map (stored.store_in entries) stores
    stores_mean [] = refl
    stores_mean (store ∷ stores) = λ i. store_means store i ∷ stores_mean stores i

    -- The view of a layer that entries make means the stores with what the entries leave in them.
    pub state_means : (number : ℕ) (stores : List LiveStore)
        → state_of rows (opened_view R number stores (layer_after [] entries)) ≡ record { number = number; stores = map (stored.store_in entries) stores }
    state_means number stores = λ i. record { number = number; stores = stores_mean stores i }
