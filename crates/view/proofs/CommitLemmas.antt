-- What the rows of a commit in the active layer, and a freeze, do to what a view means.
use Rattle.std.proofs.Common.{◌≡◌, ℕ, ◌+◌, ◌<◌, ◌≤◌, false, true≢false, List, [], ◌∷◌, ◌++◌, map, drop, refl, sym, ap, ◌∙◌, append_assoc, arith}
use Rattle.std.proofs.lemmas.Bool.Decides.{nat_tests}
use Rattle.std.specs.declared.cmp.Ordering.{Ordering}
use Rattle.std.specs.declared.cmp.Ordering.TheVariants.{Less, Equal, Greater}
use Rattle.std.specs.Ordering.{nat_cmp, is_lt, ordering_then, ordering_reverse}
use Rattle.std.specs.List.{AllByRecursion}
use Rattle.std.specs.List.Sorted.{IsStrictlySortedBy}
use Rattle.std.specs.Cmp.{nat_cmp_total}
use Rattle.std.proofs.lemmas.Cmp.{tied_itself}
use Rattle.hse_rows.specs.declared.change.Change.{Change}
use Rattle.hse_rows.specs.declared.row.Row.{Row}
use Rattle.hse_rows.specs.declared.write.Write.{Write}
use Rattle.hse_rows.specs.writes.NormalForm.{rank, write_cmp, normal_form}
use Rattle.hse_rows.specs.rows.Meaning.{apply_cmp, contents_of}
use Rattle.hse_rows.specs.states.State.{contents_after_all}
use Rattle.hse_rows.specs.states.History.{commits, happened}
use Rattle.hse_rows.specs.laws.Holding.{written_all, applied_all-stores}
use Rattle.hse_rows.specs.laws.Orderly.{NormalFormsAreInOrder}
use Rattle.row_laws.specs.Sources.{all_rows, AreLayersOver}
use Rattle.ingest_tree.specs.declared.store_row.StoreRow.{StoreRow}
use Rattle.ingest_tree.specs.Rows.{store_row, row_numbered, rows_in, rows_with}
use Rattle.sorted_lists.specs.laws.Lists.{each-weaker, each-append, each-front, each-rest}
use Rattle.sorted_lists.specs.laws.Orders.{turned}
use Rattle.view.specs.declared.view_store.ViewStore.{ViewStore}
use Rattle.view.specs.Views.{ViewState, with_active}
use Rattle.view.specs.Routed.{tree_rows}
use Rattle.view.specs.Means.{layer_rows, set_rows, store_in, state_of, IsView}
use Rattle.view.specs.Commits.{with_writes, active_of, committed, frozen}
use Rattle.view.specs.Laws.{LayersTakeRows, LayersTakeWrites, CommitsHappen, FreezesKeepStates}
use Rattle.view.specs.Layers.{each-with, OfRow, each-row, row-each, each-of_store}
use Rattle.view.proofs.ViewLemmas.{each-of_layers, each-tree}

-- ---- one row more

module _ (P : Row → Type 0) where
  each-written : (number : ℕ) (writes : List Write) → AllByRecursion (λ (write : Write). P (row_numbered number write.change)) writes
      → (layer : List StoreRow) → AllByRecursion (OfRow P) layer → AllByRecursion (OfRow P) (with_writes number layer writes)
  each-written number [] new layer all = all
  each-written number (write ∷ writes) new layer all =
      each-written number writes new.1 (rows_with layer (store_row write.store (row_numbered number write.change)))
      (each-with (OfRow P) layer (store_row write.store (row_numbered number write.change)) all new.0)

each-any : {X : Type 0} (P : X → Type 0) → ((x : X) → P x) → (xs : List X) → AllByRecursion P xs
each-any P all [] = tt
each-any P all (x ∷ xs) = (all x, each-any P all xs)

-- ---- the rows of a commit apply in order

older : (m n a b : ℕ) → n < m → is_lt (ordering_then (nat_cmp m n) (nat_cmp a b)) ≡ false
older m n a b less = grind (arith, nat_tests, less)

older-before : (number : ℕ) (change : Change) (row : Row) → row.number < number → is_lt (apply_cmp (row_numbered number change) row) ≡ false
older-before number change row less = older number row.number (rank change) (rank row.change) less

later-last : (number : ℕ) (first later : Write) → write_cmp first later ≡ Less
    → is_lt (apply_cmp (row_numbered number later.change) (row_numbered number first.change)) ≡ false
later-last number first later less =
    ap (λ r. is_lt (ordering_then r (nat_cmp (rank later.change) (rank first.change)))) (tied_itself nat_cmp_total number)
    ∙ by (nat_cmp (rank first.change) (rank later.change)) refl _ less
  where
    back : (r : Ordering) → nat_cmp (rank first.change) (rank later.change) ≡ r → nat_cmp (rank later.change) (rank first.change) ≡ ordering_reverse r
    back r is = turned nat_cmp_total (rank first.change) (rank later.change) r is

    by : (r : Ordering) → nat_cmp (rank first.change) (rank later.change) ≡ r → (rest : Ordering) → ordering_then r rest ≡ Less
        → is_lt (nat_cmp (rank later.change) (rank first.change)) ≡ false
    by Less is rest first = ap is_lt (back Less is)
    by Equal is rest first = ap is_lt (back Equal is)
    by Greater is rest first = absurd (true≢false (sym (ap is_lt first)))

abbrev Last : ℕ → Write → StoreRow → Type 0
Last number write row = is_lt (apply_cmp (row_numbered number write.change) row.row) ≡ false

module _ (take : LayersTakeRows) (number id : ℕ) (behind : List Row) (low : AllByRecursion (λ (row : Row). row.number < number) behind) where
  written : (writes : List Write) → IsStrictlySortedBy write_cmp writes → (layer : List StoreRow)
      → AllByRecursion (λ (write : Write). AllByRecursion (Last number write) layer) writes
      → contents_of (rows_in id (with_writes number layer writes) ++ behind) ≡ contents_after_all id (contents_of (rows_in id layer ++ behind)) writes
  unfolding IsStrictlySortedBy
  written [] rise layer last = refl
  written (write ∷ writes) rise layer last =
      let row = store_row write.store (row_numbered number write.change) in
      written writes rise.1 (rows_with layer row) (more writes rise.0 last.1)
      ∙ ap (λ contents. contents_after_all id contents writes)
      (take layer write number id behind
      (each-of_store (λ (r : Row). is_lt (apply_cmp (row_numbered number write.change) r) ≡ false) id layer
      (row-each (λ (r : Row). is_lt (apply_cmp (row_numbered number write.change) r) ≡ false) layer last.0)) low)
    where
      more : (later : List Write) → AllByRecursion (λ (l : Write). write_cmp write l ≡ Less) later
          → AllByRecursion (λ (l : Write). AllByRecursion (Last number l) layer) later
          → AllByRecursion (λ (l : Write). AllByRecursion (Last number l) (rows_with layer (store_row write.store (row_numbered number write.change)))) later
      more [] less all = tt
      more (l ∷ later) less all = (
        each-with (Last number l) layer (store_row write.store (row_numbered number write.change)) all.0 (later-last number write l less.0),
        more later less.1 all.1,
      )

pub layers-take-writes : LayersTakeRows → LayersTakeWrites
layers-take-writes take layer writes number id behind rise older low =
    written take number id behind low writes rise layer
    (each-any _ (λ (write : Write). each-weaker (λ (row : StoreRow) less. older-before number write.change row.row less) layer older) writes)

-- ---- layers

module _ (P : Row → Type 0) where
  active-each : (layers : List (List StoreRow)) → AllByRecursion P (all_rows (map layer_rows layers)) → AllByRecursion (OfRow P) (active_of layers)
  active-each [] all = tt
  active-each (layer ∷ layers) all = each-row P layer (each-front P (layer_rows layer) (all_rows (map layer_rows layers)) all)

  frozen-each : (layers : List (List StoreRow)) → AllByRecursion P (all_rows (map layer_rows layers)) → AllByRecursion P (all_rows (map layer_rows (drop 1 layers)))
  frozen-each [] all = tt
  frozen-each (layer ∷ layers) all = each-rest P (layer_rows layer) (all_rows (map layer_rows layers)) all

-- a row is newer than each of these
abbrev Above : List Row → Row → Type 0
Above rows row = AllByRecursion (λ (other : Row). other.number < row.number) rows

active-over : (far : List Row) (layers : List (List StoreRow)) → AreLayersOver far (map layer_rows layers)
    → AllByRecursion (OfRow (Above (all_rows (map layer_rows (drop 1 layers)) ++ far))) (active_of layers)
active-over far [] over = tt
active-over far (layer ∷ layers) over = each-row (Above (all_rows (map layer_rows layers) ++ far)) layer over.0

frozen-over : (far : List Row) (layers : List (List StoreRow)) → AreLayersOver far (map layer_rows layers)
    → AreLayersOver far (map layer_rows (drop 1 layers))
frozen-over far [] over = tt
frozen-over far (layer ∷ layers) over = over.1

in-layers : (id : ℕ) (layers : List (List StoreRow))
    → all_rows (map (rows_in id) layers) ≡ rows_in id (active_of layers) ++ all_rows (map (rows_in id) (drop 1 layers))
in-layers id [] = refl
in-layers id (layer ∷ layers) = refl

module _ {R : Type 0} (rows : R → List Row) where
  module _ (view : ViewState R) (is : IsView rows view) where
    abbrev next : ℕ
    next = view.number + 1

    abbrev rest : List (List StoreRow)
    rest = drop 1 view.layers

    abbrev sets : List Row
    sets = set_rows rows view.stores

    abbrev near : List Row
    near = all_rows (map layer_rows view.layers)

    -- with rows of another number in the active layer
    active-view : (number : ℕ) (active : List StoreRow) → view.number ≤ number
        → AllByRecursion (OfRow (λ (row : Row). row.number ≤ number)) active
        → AllByRecursion (OfRow (Above (all_rows (map layer_rows rest) ++ sets))) active
        → IsView rows (with_active view number active)
    active-view number active up within above =
        let weaker : (xs : List Row) → AllByRecursion (λ (row : Row). row.number ≤ view.number) xs → AllByRecursion (λ (row : Row). row.number ≤ number) xs =
        each-weaker (λ (row : Row) less. omega (arith, less, up)) in
        record {
          apart = is.apart;
          numbers =
              each-append (λ (row : Row). row.number ≤ number) (layer_rows active ++ all_rows (map layer_rows rest)) sets
              (each-append (λ (row : Row). row.number ≤ number) (layer_rows active) (all_rows (map layer_rows rest))
              (row-each (λ (row : Row). row.number ≤ number) active within)
              (weaker (all_rows (map layer_rows rest)) (frozen-each (λ (row : Row). row.number ≤ view.number) view.layers (each-front _ near sets is.numbers))))
              (weaker sets (each-rest _ near sets is.numbers));
          layers = (row-each (Above (all_rows (map layer_rows rest) ++ sets)) active above, frozen-over sets view.layers is.layers);
          routed = is.routed;
        }

    emptied-view : IsView rows (with_active view view.number [])
    emptied-view = active-view view.number [] (omega arith) tt tt

    frozen-view : IsView rows (frozen view)
    frozen-view = record { apart = is.apart; numbers = is.numbers; layers = (tt, is.layers); routed = is.routed }

    -- all rows behind the active layer are older than the next number
    behind-low : AllByRecursion (λ (row : Row). row.number < next) (all_rows (map layer_rows rest) ++ sets)
    behind-low =
        each-weaker (λ (row : Row) less. omega (arith, less)) (all_rows (map layer_rows rest) ++ sets)
        (each-append (λ (row : Row). row.number ≤ view.number) (all_rows (map layer_rows rest)) sets
        (frozen-each (λ (row : Row). row.number ≤ view.number) view.layers (each-front _ near sets is.numbers))
        (each-rest _ near sets is.numbers))

    committed-view : (writes : List Write) → IsView rows (committed view writes)
    committed-view writes =
        active-view next (with_writes next (active_of view.layers) writes) (omega arith)
        (each-written (λ (row : Row). row.number ≤ next) next writes (each-any _ (λ write. omega arith) writes) (active_of view.layers)
        (each-weaker (λ (row : StoreRow) less. omega (arith, less)) (active_of view.layers)
        (active-each (λ (row : Row). row.number ≤ view.number) view.layers (each-front _ near sets is.numbers))))
        (each-written (Above (all_rows (map layer_rows rest) ++ sets)) next writes (each-any _ (λ write. behind-low) writes) (active_of view.layers)
        (active-over sets view.layers is.layers))

    module _ (take : LayersTakeRows) (writes : List Write) (rise : IsStrictlySortedBy write_cmp writes) where
      store-written : (store : ViewStore R) → AllByRecursion (λ (row : Row). row.number ≤ view.number) (tree_rows rows store.tree)
          → store_in rows (with_writes next (active_of view.layers) writes ∷ rest) store ≡ written_all writes (store_in rows view.layers store)
      store-written store within =
          let id = store.id.0 in
          let behind = all_rows (map (rows_in id) rest) ++ tree_rows rows store.tree in
          let low : AllByRecursion (λ (row : Row). row.number < next) behind =
          each-weaker (λ (row : Row) less. omega (arith, less)) behind
          (each-append (λ (row : Row). row.number ≤ view.number) (all_rows (map (rows_in id) rest)) (tree_rows rows store.tree)
          (each-of_layers _ id rest (frozen-each (λ (row : Row). row.number ≤ view.number) view.layers (each-front _ near sets is.numbers))) within) in
          let old =
          active-each (λ (row : Row). row.number ≤ view.number) view.layers (each-front _ near sets is.numbers) in
          let contents =
          ap contents_of (append_assoc (rows_in id (with_writes next (active_of view.layers) writes)) (all_rows (map (rows_in id) rest)) (tree_rows rows store.tree))
          ∙ written take next id behind low writes rise (active_of view.layers)
          (each-any _ (λ write. each-weaker (λ (row : StoreRow) less. older-before next write.change row.row (omega (arith, less))) (active_of view.layers) old) writes)
          ∙ ap (λ (l : List Row). contents_after_all id (contents_of l) writes)
          (sym (append_assoc (rows_in id (active_of view.layers)) (all_rows (map (rows_in id) rest)) (tree_rows rows store.tree))
          ∙ ap (λ (l : List Row). l ++ tree_rows rows store.tree) (sym (in-layers id view.layers))) in
          λ i. record {
            id = id;
            name = store.name;
            mode = store.mode;
            prefix_length = store.prefix;
            contents = contents i;
          }

      stores-written : (stores : List (ViewStore R))
          → AllByRecursion (λ (store : ViewStore R). AllByRecursion (λ (row : Row). row.number ≤ view.number) (tree_rows rows store.tree)) stores
          → map (store_in rows (with_writes next (active_of view.layers) writes ∷ rest)) stores
          ≡ map (written_all writes) (map (store_in rows view.layers) stores)
      stores-written [] all = refl
      stores-written (store ∷ stores) all = λ i. store-written store all.0 i ∷ stores-written stores all.1 i

      committed-state : state_of rows (committed view writes) ≡ happened (state_of rows view) (commits writes)
      committed-state = λ i. record {
        number = view.number + 1;
        stores =
            (stores-written view.stores (each-tree rows (λ (row : Row). row.number ≤ view.number) view.stores (each-rest _ near sets is.numbers))
            ∙ ap (λ s. s.stores) (sym (applied_all-stores (state_of rows view) writes))) i;
      }

  pub commits-happen : LayersTakeRows → NormalFormsAreInOrder → CommitsHappen R rows
  commits-happen take order view writes is = (
    committed-view view is (normal_form writes),
    committed-state view is take (normal_form writes) (order writes).rising,
  )

  pub freezes-keep : FreezesKeepStates R rows
  freezes-keep view is = (emptied-view view is, frozen-view view is, refl)
