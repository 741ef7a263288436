-- What a key holds in a store of a view: what the first layer that says something of it says, or else what the tree holds.
use Rattle.std.proofs.Common.{◌≡◌, ℕ, ◌<◌, ◌≤◌, Bool, true, false, cond, List, [], ◌∷◌, ◌++◌, map, Option, Some, None, refl, sym, ap, ◌∙◌, subst, append-nil, arith}
use Rattle.std.specs.Prelude.{IfSome}
use Rattle.std.proofs.lemmas.Grind.{flat_map-append}
use Rattle.std.specs.List.{AllByRecursion, find}
use Rattle.std.specs.Option.{option_map}
use Rattle.std.specs.FinMap as fin_map
use Rattle.hse_rows.specs.declared.row.Row.{Row}
use Rattle.hse_rows.specs.rows.Meaning.{contents_of, own_at, covered_at, said, value_said}
use Rattle.hse_rows.specs.writes.NormalForm.{same}
use Rattle.hse_rows.specs.states.State.{Store, store_named}
use Rattle.row_laws.specs.Laws.{FirstSourcesDecide, LayersFall}
use Rattle.row_laws.specs.Sources.{all_rows, AreLayersOver, Falls, or_else, first_said}
use Rattle.ingest_tree.specs.declared.store_row.StoreRow.{StoreRow}
use Rattle.ingest_tree.specs.Rows.{rows_in}
use Rattle.sorted_lists.specs.laws.Lists.{each-weaker, each-front, each-rest, each-append}
use Rattle.view.specs.declared.view_store.ViewStore.{ViewStore}
use Rattle.view.specs.Views.{ViewState}
use Rattle.view.specs.Routed.{tree_rows, IsRouted}
use Rattle.view.specs.Layers.{each-of_store}
use Rattle.view.specs.Means.{layer_rows, set_rows, store_rows, store_in, state_of, IsView, IsUnder}

-- ---- layers over other rows

-- what is said, or else a value
abbrev pub said_or : Option (Option (List ℕ)) → Option (List ℕ) → Option (List ℕ)
said_or None value = value
said_or (Some said) value = said

each-all : {X : Type 0} (P : X → Type 0) → ((x : X) → P x) → (xs : List X) → AllByRecursion P xs
each-all P all [] = tt
each-all P all (x ∷ xs) = (all x, each-all P all xs)

else-assoc : (a b c : Option (Option (List ℕ))) → or_else (or_else a b) c ≡ or_else a (or_else b c)
else-assoc None b c = refl
else-assoc (Some a) b c = refl

first_said-append : (key : List ℕ) (xs ys : List (List Row)) → first_said key (xs ++ ys) ≡ or_else (first_said key xs) (first_said key ys)
first_said-append key [] ys = refl
first_said-append key (x ∷ xs) ys =
    ap (or_else (said (own_at key x) (covered_at key x))) (first_said-append key xs ys)
    ∙ sym (else-assoc (said (own_at key x) (covered_at key x)) (first_said key xs) (first_said key ys))

said-else : (a b : Option (Option (List ℕ))) → value_said (or_else a b) ≡ said_or a (value_said b)
said-else None b = refl
said-else (Some a) b = refl

module _ (decide : FirstSourcesDecide) (fall : LayersFall) (key : List ℕ) (layers : List (List Row)) (far : List Row) where
  one-falls : Falls key (far ∷ [])
  one-falls = (λ there. each-all _ (λ row reached. tt) far, tt)

  all-far : all_rows (far ∷ []) ≡ far
  all-far = append-nil far

  -- the first layer that says something, or else the other rows
  pub get-layers : AreLayersOver far layers
      → fin_map.get (contents_of (all_rows layers ++ far)) key ≡ said_or (first_said key layers) (fin_map.get (contents_of far) key)
  get-layers over =
      ap (λ (l : List Row). fin_map.get (contents_of l) key)
      (ap (λ (l : List Row). all_rows layers ++ l) (sym all-far) ∙ sym (flat_map-append (λ l. l) layers (far ∷ [])))
      ∙ decide (layers ++ far ∷ []) key (fall layers (far ∷ []) key (subst (λ l. AreLayersOver l layers) (sym all-far) over) one-falls)
      ∙ ap value_said (first_said-append key layers (far ∷ []))
      ∙ said-else (first_said key layers) (first_said key (far ∷ []))
      ∙ ap (said_or (first_said key layers)) (sym (decide (far ∷ []) key one-falls) ∙ ap (λ (l : List Row). fin_map.get (contents_of l) key) all-far)

-- ---- a store of the view

found-so : {X : Type 0} (P : X → Type 0) (p : X → Bool) (xs : List X) → AllByRecursion P xs → IfSome (find p xs) P
found-so P p [] all = tt
found-so P p (x ∷ xs) all =
    elim (p x) as (λ b. IfSome (cond b (Some x) (find p xs)) P) [ true ↦ all.0 | false ↦ found-so P p xs all.1 ]

pub some-mapped : {X Y : Type 0} (f : X → Y) (P : Y → Type 0) (o : Option X) → IfSome (option_map f o) P → IfSome o (λ x. P (f x))
some-mapped f P None some = tt
some-mapped f P (Some x) some = some

module _ (P : Row → Type 0) (id : ℕ) where
  pub each-of_layers : (layers : List (List StoreRow)) → AllByRecursion P (all_rows (map layer_rows layers)) → AllByRecursion P (all_rows (map (rows_in id) layers))
  each-of_layers [] all = tt
  each-of_layers (layer ∷ layers) all =
      each-append P (rows_in id layer) (all_rows (map (rows_in id) layers))
      (each-of_store P id layer (each-front P (layer_rows layer) (all_rows (map layer_rows layers)) all))
      (each-of_layers layers (each-rest P (layer_rows layer) (all_rows (map layer_rows layers)) all))

-- layers over some rows are over fewer, and so are the rows of one store in them
layers-under : (near far : List Row) (id : ℕ) → ((P : Row → Type 0) → AllByRecursion P far → AllByRecursion P near)
    → (layers : List (List StoreRow)) → AreLayersOver far (map layer_rows layers) → AreLayersOver near (map (rows_in id) layers)
layers-under near far id fewer [] over = tt
layers-under near far id fewer (layer ∷ layers) over = (
  each-of_store _ id layer
      (each-weaker (λ (row : Row) below.
      each-append (λ (other : Row). other.number < row.number) (all_rows (map (rows_in id) layers)) near
      (each-of_layers _ id layers (each-front (λ (other : Row). other.number < row.number) (all_rows (map layer_rows layers)) far below))
      (fewer _ (each-rest (λ (other : Row). other.number < row.number) (all_rows (map layer_rows layers)) far below)))
      (layer_rows layer) over.0),
  layers-under near far id fewer layers over.1,
)

module _ {R : Type 0} (rows : R → List Row) where
  -- each store's rows are among those of all
  pub each-tree : (P : Row → Type 0) (stores : List (ViewStore R)) → AllByRecursion P (set_rows rows stores)
      → AllByRecursion (λ (store : ViewStore R). AllByRecursion P (tree_rows rows store.tree)) stores
  each-tree P [] all = tt
  each-tree P (store ∷ stores) all = (
    each-front P (tree_rows rows store.tree) (set_rows rows stores) all,
    each-tree P stores (each-rest P (tree_rows rows store.tree) (set_rows rows stores) all),
  )

  pub store-under : (view : ViewState R) → IsView rows view → (p : ViewStore R → Bool) → IfSome (find p view.stores) (IsUnder rows view.layers)
  store-under view is p = by (find p view.stores) refl
    where
      by : (found : Option (ViewStore R)) → find p view.stores ≡ found → IfSome found (IsUnder rows view.layers)
      by None e = tt
      by (Some store) e = record {
        over = layers-under (tree_rows rows store.tree) (set_rows rows view.stores) store.id.0
            (λ P all. subst (λ o. IfSome o (λ (s : ViewStore R). AllByRecursion P (tree_rows rows s.tree))) e
            (found-so _ p view.stores (each-tree P view.stores all)))
            view.layers is.layers;
        routed = subst (λ o. IfSome o (λ (s : ViewStore R). IsRouted rows s.prefix s.tree)) e (found-so _ p view.stores is.routed);
      }

  -- no row of a store is newer than the view
  pub store-not_newer : (view : ViewState R) → IsView rows view → (p : ViewStore R → Bool) (store : ViewStore R) → find p view.stores ≡ Some store
      → AllByRecursion (λ (row : Row). row.number ≤ view.number) (store_rows rows view.layers store)
  store-not_newer view is p store found =
      let near = all_rows (map layer_rows view.layers) in
      each-append (λ (row : Row). row.number ≤ view.number) (all_rows (map (rows_in store.id.0) view.layers)) (tree_rows rows store.tree)
      (each-of_layers _ store.id.0 view.layers (each-front _ near (set_rows rows view.stores) is.numbers))
      (subst (λ o. IfSome o (λ (s : ViewStore R). AllByRecursion (λ (row : Row). row.number ≤ view.number) (tree_rows rows s.tree))) found
      (found-so _ p view.stores (each-tree _ view.stores (each-rest _ near (set_rows rows view.stores) is.numbers))))

  -- newer rows go over a store
  pub store-under_more : (view : ViewState R) → IsView rows view → (p : ViewStore R → Bool) (store : ViewStore R) (own : List StoreRow)
      → find p view.stores ≡ Some store → AllByRecursion (λ (row : StoreRow). view.number < row.row.number) own
      → IsUnder rows (own ∷ view.layers) store
  store-under_more view is p store own found newer =
      let under = subst (λ o. IfSome o (IsUnder rows view.layers)) found (store-under view is p) in
      record {
        over = (
          each-of_store _ store.id.0 own
              (each-mapped own newer (λ row above. each-weaker (λ (other : Row) up. omega (arith, up, above))
              (store_rows rows view.layers store) (store-not_newer view is p store found))),
          under.over,
        );
        routed = under.routed;
      }
    where
      each-mapped : {P : Row → Type 0} (own : List StoreRow) → AllByRecursion (λ (row : StoreRow). view.number < row.row.number) own
          → ((row : Row) → view.number < row.number → P row) → AllByRecursion P (layer_rows own)
      each-mapped [] newer so = tt
      each-mapped (row ∷ own) newer so = (so row.row newer.0, each-mapped own newer.1 so)

  -- the state's store of a name is what the view's store means
  pub named-store : (view : ViewState R) (name : List ℕ)
      → store_named (state_of rows view) name ≡ option_map (store_in rows view.layers) (find (λ s. same s.name name) view.stores)
  named-store view name = by view.stores
    where
      by : (stores : List (ViewStore R))
          → find (λ (s : Store). same s.name name) (map (store_in rows view.layers) stores)
          ≡ option_map (store_in rows view.layers) (find (λ s. same s.name name) stores)
      by [] = refl
      by (store ∷ stores) =
          elim (same store.name name)
          as (λ b. cond b (Some (store_in rows view.layers store)) (find (λ (s : Store). same s.name name) (map (store_in rows view.layers) stores))
          ≡ option_map (store_in rows view.layers) (cond b (Some store) (find (λ s. same s.name name) stores)))
          [ true ↦ refl | false ↦ by stores ]
