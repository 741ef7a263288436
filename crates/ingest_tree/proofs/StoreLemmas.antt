-- The rows of one store among those of all.
use Rattle.std.proofs.Common.{◌≡◌, ℕ, zero, suc, ◌+◌, ◌<◌, ◌≤◌, ◌==◌, Bool, true, false, true≢false, cond, ◌&&◌, ◌||◌, nat_lt, List, [], ◌∷◌, ◌++◌, length, take, drop, map, Option, Some, refl, ap, sym, ◌∙◌, subst, arith, append-nil}
use Rattle.std.proofs.lemmas.Bool.{ltb-true, ltb-false, eqb-true, lt-ltb, le-ltb, eq-eqb}
use Rattle.std.proofs.lemmas.List.{drop-take, drop-drop}
use Rattle.std.specs.declared.cmp.Ordering.{Ordering}
use Rattle.std.specs.declared.cmp.Ordering.TheVariants.{Less, Equal, Greater}
use Rattle.std.specs.Ordering.{is_lt, ordering_then}
use Rattle.std.specs.Option.{option_map}
use Rattle.std.specs.List.{AllByRecursion, filter, slice_get}
use Rattle.std.specs.List.Sorted.{IsStrictlySortedBy}
use Rattle.hse_rows.specs.declared.change.Change.{Change}
use Rattle.hse_rows.specs.declared.change.Change.TheVariants.{Put, Del, PDel}
use Rattle.hse_rows.specs.declared.row.Row.{Row}
use Rattle.hse_rows.specs.writes.Change.{FitsLimits}
use Rattle.hse_rows.specs.rows.Newest.{row_cmp}
use Rattle.hse_rows.specs.rows.RowSets.{AreRows, is_before, place_of}
use Rattle.sorted_lists.specs.laws.Lists.{each-weaker, each-filter, filter-all, filter-none}
use Rattle.sorted_lists.specs.laws.Orders.{rising-filter}
use Rattle.sorted_lists.specs.laws.Parts.{filter-append, IsCut, cut-counted}
use Rattle.ingest_tree.specs.declared.store_row.StoreRow.{StoreRow}
use Rattle.ingest_tree.specs.Rows.{row_numbered, store_row_cmp, rows_in}
use Rattle.ingest_tree.specs.StoreRows.{first_at, key_at}
use Rattle.ingest_tree.specs.Tree.{AreRowsOfStores}
use Rattle.ingest_tree.proofs.OrderLemmas.{order}
use Rattle.ingest_tree.proofs.RangeLemmas.{less-from}

-- ---- how a row stands to the first of a store, and to one of its keys

abbrev same_store : ℕ → StoreRow → Bool
same_store id r = r.store.0 == id

none-below : (number : ℕ) (change : Change) → is_lt (row_cmp (row_numbered number change) (row_numbered 0 (PDel []))) ≡ false
none-below number (Put key bytes) = refl
none-below number (Del key) = refl
none-below number (PDel []) = refl
none-below number (PDel (byte ∷ prefix)) = refl

below-key : (edge : List ℕ) (number : ℕ) (change : Change) → is_lt (row_cmp (row_numbered number change) (row_numbered 0 (Del edge))) ≡ is_before edge (row_numbered number change)
below-key edge number (Put key bytes) = refl
below-key edge number (Del key) = refl
below-key edge number (PDel prefix) = refl

store-first : (b c : Bool) (o : Ordering) → is_lt (ordering_then (cond b Less (cond c Equal Greater)) o) ≡ (b || (c && is_lt o))
store-first true c o = refl
store-first false true o = refl
store-first false false o = refl

or-none : (b c d : Bool) → d ≡ false → (b || (c && d)) ≡ b
or-none true c d is = refl
or-none false true d is = is
or-none false false d is = refl

before-store : (id : ℕ) (r : StoreRow) → is_lt (store_row_cmp r (first_at id)) ≡ nat_lt r.store.0 id
before-store id r =
    store-first (nat_lt r.store.0 id) (r.store.0 == id) (row_cmp r.row (row_numbered 0 (PDel [])))
    ∙ or-none (nat_lt r.store.0 id) (r.store.0 == id) (is_lt (row_cmp r.row (row_numbered 0 (PDel [])))) (none-below r.row.number r.row.change)

before-key : (id : ℕ) (edge : List ℕ) (r : StoreRow) → is_lt (store_row_cmp r (key_at id edge)) ≡ (nat_lt r.store.0 id || (same_store id r && is_before edge r.row))
before-key id edge r =
    store-first (nat_lt r.store.0 id) (r.store.0 == id) (row_cmp r.row (row_numbered 0 (Del edge)))
    ∙ ap (λ b. nat_lt r.store.0 id || ((r.store.0 == id) && b)) (below-key edge r.row.number r.row.change)

apart-stores : (a b : ℕ) → nat_lt a b ≡ true → (a == b) ≡ false
apart-stores a b less = by (a == b) refl
  where
    by : (c : Bool) → (a == b) ≡ c → c ≡ false
    by true is = let same = eqb-true a b is in let low = ltb-true a b less in absurd (omega (arith, same, low))
    by false is = refl

next-store : (a b : ℕ) → nat_lt a (suc b) ≡ (nat_lt a b || (a == b))
next-store a b = by (nat_lt a b) (a == b) refl refl
  where
    by : (c d : Bool) → nat_lt a b ≡ c → (a == b) ≡ d → nat_lt a (suc b) ≡ (c || d)
    by true d is other = let low = ltb-true a b is in lt-ltb a (suc b) (omega (arith, low))
    by false true is other = let same = eqb-true a b other in lt-ltb a (suc b) (omega (arith, same))
    by false false is other = le-ltb a (suc b) (above (λ same. true≢false (sym (eq-eqb a b same) ∙ other)) (ltb-false a b is))
      where
        above : (a ≡ b → ⊥) → b ≤ a → suc b ≤ a
        above apart low = less-from b a low (λ same. apart (sym same))

-- ---- counts

-- what is below a key of a store is of a store below, or below the key in the store
pub count-key : (id : ℕ) (edge : List ℕ) (rows : List StoreRow)
    → length (filter (λ r. is_lt (store_row_cmp r (key_at id edge))) rows)
    ≡ length (filter (λ r. is_lt (store_row_cmp r (first_at id))) rows) + place_of edge (rows_in id rows)
count-key id edge [] = refl
count-key id edge (r ∷ rows) =
    ap (λ b. length (cond b (r ∷ filter key rows) (filter key rows))) (before-key id edge r)
    ∙ by (nat_lt r.store.0 id) (same_store id r) (is_before edge r.row) (λ less. apart-stores r.store.0 id less) refl (count-key id edge rows)
    ∙ ap (λ b. length (cond b (r ∷ filter first rows) (filter first rows)) + place_of edge (rows_in id (r ∷ rows))) (sym (before-store id r))
  where
    key : StoreRow → Bool
    key r = is_lt (store_row_cmp r (key_at id edge))

    first : StoreRow → Bool
    first r = is_lt (store_row_cmp r (first_at id))

    by : (b c d : Bool) → (b ≡ true → c ≡ false) → is_before edge r.row ≡ d
        → length (filter key rows) ≡ length (filter first rows) + place_of edge (rows_in id rows)
        → length (cond (b || (c && d)) (r ∷ filter key rows) (filter key rows))
        ≡ length (cond b (r ∷ filter first rows) (filter first rows))
        + place_of edge (map (λ (r : StoreRow). r.row) (cond c (r ∷ filter (same_store id) rows) (filter (same_store id) rows)))
    by true true d apart is more = absurd (true≢false (apart refl))
    by true false d apart is more = omega (arith, more)
    by false true true apart is more =
        let one : length (cond (is_before edge r.row) (r.row ∷ filter (is_before edge) (rows_in id rows)) (filter (is_before edge) (rows_in id rows)))
        ≡ suc (place_of edge (rows_in id rows)) =
        ap (λ b. length (cond b (r.row ∷ filter (is_before edge) (rows_in id rows)) (filter (is_before edge) (rows_in id rows)))) is in
        omega (arith, more, one)
    by false true false apart is more =
        let none : length (cond (is_before edge r.row) (r.row ∷ filter (is_before edge) (rows_in id rows)) (filter (is_before edge) (rows_in id rows)))
        ≡ place_of edge (rows_in id rows) =
        ap (λ b. length (cond b (r.row ∷ filter (is_before edge) (rows_in id rows)) (filter (is_before edge) (rows_in id rows)))) is in
        omega (arith, more, none)
    by false false d apart is more = more

pub count-store : (id : ℕ) (rows : List StoreRow)
    → length (filter (λ r. is_lt (store_row_cmp r (first_at (suc id)))) rows)
    ≡ length (filter (λ r. is_lt (store_row_cmp r (first_at id))) rows) + length (rows_in id rows)
count-store id [] = refl
count-store id (r ∷ rows) =
    ap (λ b. length (cond b (r ∷ filter next rows) (filter next rows))) (before-store (suc id) r ∙ next-store r.store.0 id)
    ∙ by (nat_lt r.store.0 id) (same_store id r) (λ less. apart-stores r.store.0 id less) (count-store id rows)
    ∙ ap (λ b. length (cond b (r ∷ filter first rows) (filter first rows)) + length (rows_in id (r ∷ rows))) (sym (before-store id r))
  where
    next : StoreRow → Bool
    next r = is_lt (store_row_cmp r (first_at (suc id)))

    first : StoreRow → Bool
    first r = is_lt (store_row_cmp r (first_at id))

    by : (b c : Bool) → (b ≡ true → c ≡ false)
        → length (filter next rows) ≡ length (filter first rows) + length (rows_in id rows)
        → length (cond (b || c) (r ∷ filter next rows) (filter next rows))
        ≡ length (cond b (r ∷ filter first rows) (filter first rows))
        + length (map (λ (r : StoreRow). r.row) (cond c (r ∷ filter (same_store id) rows) (filter (same_store id) rows)))
    by true true apart more = absurd (true≢false (apart refl))
    by true false apart more = omega (arith, more)
    by false true apart more = omega (arith, more)
    by false false apart more = more

-- ---- the range of a store

module _ {X : Type 0} (P : X → Type 0) where
  each-take : (xs : List X) (i : ℕ) → AllByRecursion P xs → AllByRecursion P (take i xs)
  each-take xs zero all = tt
  each-take [] (suc i) all = tt
  each-take (x ∷ xs) (suc i) all = (all.0, each-take xs i all.1)

  each-drop : (xs : List X) (i : ℕ) → AllByRecursion P xs → AllByRecursion P (drop i xs)
  each-drop xs zero all = all
  each-drop [] (suc i) all = tt
  each-drop (x ∷ xs) (suc i) all = each-drop xs i all.1

each-two : {X : Type 0} {P Q R : X → Type 0} → ((x : X) → P x → Q x → R x) → (xs : List X) → AllByRecursion P xs → AllByRecursion Q xs → AllByRecursion R xs
each-two f [] one two = tt
each-two f (x ∷ xs) one two = (f x one.0 two.0, each-two f xs one.1 two.1)

take-drop : {X : Type 0} (i : ℕ) (xs : List X) → take i xs ++ drop i xs ≡ xs
take-drop zero xs = refl
take-drop (suc i) [] = refl
take-drop (suc i) (x ∷ xs) = ap (λ l. x ∷ l) (take-drop i xs)

equal-store : (a id : ℕ) → nat_lt a id ≡ false → nat_lt a (suc id) ≡ true → (a == id) ≡ true
equal-store a id low high =
    let least = ltb-false a id low in
    let most = ltb-true a (suc id) high in
    eq-eqb a id (omega (arith, least, most))

above-store : (a id : ℕ) → nat_lt a (suc id) ≡ false → (a == id) ≡ false
above-store a id low = by (a == id) refl
  where
    by : (c : Bool) → (a == id) ≡ c → c ≡ false
    by true is = let same = eqb-true a id is in let least = ltb-false a (suc id) low in absurd (omega (arith, same, least))
    by false is = refl

module _ (id : ℕ) (rows : List StoreRow) (rise : IsStrictlySortedBy store_row_cmp rows) where
  abbrev start : ℕ
  start = length (filter (λ r. is_lt (store_row_cmp r (first_at id))) rows)

  abbrev count : ℕ
  count = length (rows_in id rows)

  cut : IsCut order rows (first_at id) start
  cut = cut-counted order rows (first_at id) rise

  next_cut : IsCut order rows (first_at (suc id)) (start + count)
  next_cut = subst (IsCut order rows (first_at (suc id))) (count-store id rows) (cut-counted order rows (first_at (suc id)) rise)

  abbrev within_store : List StoreRow
  within_store = take count (drop start rows)

  front-none : AllByRecursion (λ r. same_store id r ≡ false) (take start rows)
  front-none = each-weaker (λ r less. apart-stores r.store.0 id (sym (before-store id r) ∙ ap is_lt less)) (take start rows) cut.below

  rest-from : AllByRecursion (λ r. nat_lt r.store.0 id ≡ false) (drop start rows)
  rest-from = each-weaker (λ r low. sym (before-store id r) ∙ low) (drop start rows) cut.rest

  middle-all : AllByRecursion (λ r. same_store id r ≡ true) within_store
  middle-all =
      each-two (λ (r : StoreRow) low high. equal-store r.store.0 id low high) (take count (drop start rows))
      (each-take _ (drop start rows) count rest-from)
      (subst (AllByRecursion (λ (r : StoreRow). nat_lt r.store.0 (suc id) ≡ true)) (drop-take start count rows)
      (each-drop _ (take (start + count) rows) start
      (each-weaker (λ r less. sym (before-store (suc id) r) ∙ ap is_lt less) (take (start + count) rows) next_cut.below)))

  back-none : AllByRecursion (λ r. same_store id r ≡ false) (drop count (drop start rows))
  back-none =
      subst (AllByRecursion (λ r. same_store id r ≡ false)) (sym (drop-drop count start rows))
      (each-weaker (λ r low. above-store r.store.0 id (sym (before-store (suc id) r) ∙ low)) (drop (start + count) rows) next_cut.rest)

  filter-store : filter (same_store id) rows ≡ within_store
  filter-store =
      ap (filter (same_store id)) (sym (take-drop start rows))
      ∙ filter-append (same_store id) (take start rows) (drop start rows)
      ∙ ap (λ l. l ++ filter (same_store id) (drop start rows)) (filter-none (same_store id) (take start rows) front-none)
      ∙ ap (filter (same_store id)) (sym (take-drop count (drop start rows)))
      ∙ filter-append (same_store id) (take count (drop start rows)) (drop count (drop start rows))
      ∙ (λ i. filter-all (same_store id) (take count (drop start rows)) middle-all i
      ++ filter-none (same_store id) (drop count (drop start rows)) back-none i)
      ∙ append-nil (take count (drop start rows))

  get-drop : (xs : List StoreRow) (n i : ℕ) → slice_get (drop n xs) i ≡ slice_get xs (n + i)
  get-drop xs zero i = let same : i ≡ 0 + i = omega arith in ap (slice_get xs) same
  get-drop [] (suc n) i = refl
  get-drop (x ∷ xs) (suc n) i = get-drop xs n i ∙ (let same : suc (n + i) ≡ suc n + i = omega arith in ap (slice_get (x ∷ xs)) same)

  get-take : (xs : List StoreRow) (n i : ℕ) → i < n → slice_get (take n xs) i ≡ slice_get xs i
  get-take xs zero i less = absurd (omega (arith, less))
  get-take [] (suc n) i less = refl
  get-take (x ∷ xs) (suc n) zero less = refl
  get-take (x ∷ xs) (suc n) (suc i) less = get-take xs n i (omega (arith, less))

  get-map : (xs : List StoreRow) (i : ℕ) (x : StoreRow) → slice_get xs i ≡ Some x → slice_get (map (λ (r : StoreRow). r.row) xs) i ≡ Some x.row
  get-map [] i x at = absurd cc
  get-map (y ∷ xs) zero x at = ap (λ (o : Option StoreRow). option_map (λ (r : StoreRow). r.row) o) at
  get-map (y ∷ xs) (suc i) x at = get-map xs i x at

  -- a place among the rows of the store
  pub get-store : (i : ℕ) (x : StoreRow) → i < length (rows_in id rows)
      → slice_get rows (length (filter (λ r. is_lt (store_row_cmp r (first_at id))) rows) + i) ≡ Some x
      → slice_get (rows_in id rows) i ≡ Some x.row
  get-store i x less at =
      ap (λ l. slice_get (map (λ (r : StoreRow). r.row) l) i) filter-store
      ∙ get-map (take count (drop start rows)) i x (get-take (drop start rows) count i less ∙ get-drop rows start i ∙ at)

-- ---- what they are

row-less : (id : ℕ) (r x : StoreRow) → same_store id r ≡ true → same_store id x ≡ true → store_row_cmp r x ≡ Less → row_cmp r.row x.row ≡ Less
row-less id r x one two less =
    let same : r.store.0 ≡ x.store.0 = eqb-true r.store.0 id one ∙ sym (eqb-true x.store.0 id two) in
    sym ((λ i. ordering_then (cond (not_lt same i) Less (cond (tied same i) Equal Greater)) (row_cmp r.row x.row))) ∙ less
  where
    not_lt : r.store.0 ≡ x.store.0 → nat_lt r.store.0 x.store.0 ≡ false
    not_lt same = le-ltb r.store.0 x.store.0 (omega (arith, same))

    tied : r.store.0 ≡ x.store.0 → (r.store.0 == x.store.0) ≡ true
    tied same = eq-eqb r.store.0 x.store.0 same

pub kept-same : (id : ℕ) (rows : List StoreRow) → AllByRecursion (λ r. same_store id r ≡ true) (filter (same_store id) rows)
kept-same id [] = tt
kept-same id (r ∷ rows) = by (same_store id r) refl (kept-same id rows)
  where
    by : (b : Bool) → same_store id r ≡ b → AllByRecursion (λ r. same_store id r ≡ true) (filter (same_store id) rows)
        → AllByRecursion (λ r. same_store id r ≡ true) (cond b (r ∷ filter (same_store id) rows) (filter (same_store id) rows))
    by true is rest = (is, rest)
    by false is rest = rest

each-row : (P : Row → Type 0) (rows : List StoreRow) → AllByRecursion (λ (r : StoreRow). P r.row) rows → AllByRecursion P (map (λ (r : StoreRow). r.row) rows)
each-row P [] all = tt
each-row P (r ∷ rows) all = (all.0, each-row P rows all.1)

rising-rows : (id : ℕ) (rows : List StoreRow) → AllByRecursion (λ r. same_store id r ≡ true) rows → IsStrictlySortedBy store_row_cmp rows
    → IsStrictlySortedBy row_cmp (map (λ (r : StoreRow). r.row) rows)
unfolding IsStrictlySortedBy
rising-rows id [] all rise = tt
rising-rows id (r ∷ rows) all rise = (
  each-row (λ row. row_cmp r.row row ≡ Less) rows (each-two (λ (x : StoreRow) same less. row-less id r x all.0 same less) rows all.1 rise.0),
  rising-rows id rows all.1 rise.1,
)

-- the rows of a store are those of a set
pub store-rows : (id : ℕ) (rows : List StoreRow) → AreRowsOfStores rows → AreRows (rows_in id rows)
store-rows id rows are = record {
  rising = rising-rows id (filter (same_store id) rows) (kept-same id rows) (rising-filter order (same_store id) rows are.rising);
  within = each-row (λ (row : Row). FitsLimits row.change) (filter (same_store id) rows)
      (each-filter (λ (r : StoreRow). FitsLimits r.row.change) (same_store id) rows are.within);
}
