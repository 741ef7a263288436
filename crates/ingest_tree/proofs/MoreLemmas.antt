-- One row more, store by store.
use Rattle.std.proofs.Common.{◌≡◌, ℕ, ◌≤◌, ◌==◌, Bool, true, false, true≢false, cond, not, List, [], ◌∷◌, map, refl, ap, sym, ◌∙◌, arith}
use Rattle.std.proofs.lemmas.Bool.{eqb-true, eq-eqb, le-ltb}
use Rattle.std.specs.declared.cmp.Ordering.{Ordering}
use Rattle.std.specs.declared.cmp.Ordering.TheVariants.{Less, Equal, Greater}
use Rattle.std.specs.Ordering.{is_lt, is_eq, ordering_then}
use Rattle.std.specs.List.{AllByRecursion, filter}
use Rattle.std.specs.List.Sorted.{IsStrictlySortedBy}
use Rattle.std.specs.Cmp.{IsTotalOrder, first_so}
use Rattle.hse_rows.specs.declared.row.Row.{Row}
use Rattle.hse_rows.specs.writes.Sorted.{placed}
use Rattle.hse_rows.specs.rows.Newest.{row_cmp}
use Rattle.hse_rows.specs.rows.Meaning.{with_row}
use Rattle.sorted_lists.specs.Places.{is_apart}
use Rattle.sorted_lists.specs.laws.Lists.{each-filter}
use Rattle.sorted_lists.specs.laws.Orders.{placed-front, below-below, rising-filter}
use Rattle.ingest_tree.specs.declared.store_row.StoreRow.{StoreRow}
use Rattle.ingest_tree.specs.Rows.{store_row_cmp, rows_in, rows_with}
use Rattle.ingest_tree.proofs.OrderLemmas.{order}
use Rattle.ingest_tree.proofs.WalkLemmas.{ties}
use Rattle.ingest_tree.proofs.StoreLemmas.{kept-same}

module _ {X : Type 0} {R : X → X → Ordering} (o : IsTotalOrder R) (p : X → Bool) where
  -- a test that x does not pass, of a list with x
  placed-dropped : (ys : List X) (x : X) → p x ≡ false → filter p (placed R ys x) ≡ filter p ys
  placed-dropped [] x is = ap (λ b. cond b (x ∷ []) []) is
  placed-dropped (y ∷ ys) x is = by (is_lt (R x y)) (placed-dropped ys x is)
    where
      by : (b : Bool) → filter p (placed R ys x) ≡ filter p ys → filter p (cond b (x ∷ y ∷ ys) (y ∷ placed R ys x)) ≡ filter p (y ∷ ys)
      by true rest = ap (λ c. cond c (x ∷ filter p (y ∷ ys)) (filter p (y ∷ ys))) is
      by false rest = ap (λ l. cond (p y) (y ∷ l) l) rest

  -- and one that it passes
  placed-kept : (ys : List X) (x : X) → IsStrictlySortedBy R ys → p x ≡ true → filter p (placed R ys x) ≡ placed R (filter p ys) x
  unfolding IsStrictlySortedBy
  placed-kept [] x rise is = ap (λ b. cond b (x ∷ []) []) is
  placed-kept (y ∷ ys) x rise is = by (R x y) refl (p y) refl (placed-kept ys x rise.1 is)
    where
      behind : (r : Ordering) → is_lt r ≡ false → (c : Bool) → R x y ≡ r → p y ≡ c → filter p (placed R ys x) ≡ placed R (filter p ys) x
          → cond c (y ∷ filter p (placed R ys x)) (filter p (placed R ys x)) ≡ placed R (cond c (y ∷ filter p ys) (filter p ys)) x
      behind r above true same kept rest =
          ap (λ l. y ∷ l) rest ∙ sym (ap (λ b. cond b (x ∷ y ∷ filter p ys) (y ∷ placed R (filter p ys) x)) (ap is_lt same ∙ above))
      behind r above false same kept rest = rest

      by : (r : Ordering) → R x y ≡ r → (c : Bool) → p y ≡ c → filter p (placed R ys x) ≡ placed R (filter p ys) x
          → filter p (cond (is_lt (R x y)) (x ∷ y ∷ ys) (y ∷ placed R ys x)) ≡ placed R (filter p (y ∷ ys)) x
      by Less less c kept rest =
          ap (λ r. filter p (cond (is_lt r) (x ∷ y ∷ ys) (y ∷ placed R ys x))) less
          ∙ ap (λ b. cond b (x ∷ filter p (y ∷ ys)) (filter p (y ∷ ys))) is
          ∙ sym (placed-front o (filter p (y ∷ ys)) x (each-filter _ p (y ∷ ys) (less, below-below o x y ys less rise.0)))
      by Equal tied c kept rest =
          ap (λ r. filter p (cond (is_lt r) (x ∷ y ∷ ys) (y ∷ placed R ys x))) tied
          ∙ ap (λ b. cond b (y ∷ filter p (placed R ys x)) (filter p (placed R ys x))) kept
          ∙ behind Equal refl c tied kept rest
          ∙ ap (λ b. placed R (cond b (y ∷ filter p ys) (filter p ys)) x) (sym kept)
      by Greater above c kept rest =
          ap (λ r. filter p (cond (is_lt r) (x ∷ y ∷ ys) (y ∷ placed R ys x))) above
          ∙ ap (λ b. cond b (y ∷ filter p (placed R ys x)) (filter p (placed R ys x))) kept
          ∙ behind Greater refl c above kept rest
          ∙ ap (λ b. placed R (cond b (y ∷ filter p ys) (filter p ys)) x) (sym kept)

  filter-turned : (q : X → Bool) (xs : List X) → filter p (filter q xs) ≡ filter q (filter p xs)
  filter-turned q [] = refl
  filter-turned q (x ∷ xs) = by (q x) (p x) refl refl (filter-turned q xs)
    where
      by : (b c : Bool) → q x ≡ b → p x ≡ c → filter p (filter q xs) ≡ filter q (filter p xs)
          → filter p (cond b (x ∷ filter q xs) (filter q xs)) ≡ filter q (cond c (x ∷ filter p xs) (filter p xs))
      by true true one two rest =
          ap (λ t. cond t (x ∷ filter p (filter q xs)) (filter p (filter q xs))) two ∙ ap (λ l. x ∷ l) rest
          ∙ ap (λ t. cond t (x ∷ filter q (filter p xs)) (filter q (filter p xs))) (sym one)
      by true false one two rest = ap (λ t. cond t (x ∷ filter p (filter q xs)) (filter p (filter q xs))) two ∙ rest
      by false true one two rest = rest ∙ ap (λ t. cond t (x ∷ filter q (filter p xs)) (filter q (filter p xs))) (sym one)
      by false false one two rest = rest

  filter-passed : (q : X → Bool) → ((x : X) → p x ≡ true → q x ≡ true) → (xs : List X) → filter p (filter q xs) ≡ filter p xs
  filter-passed q so [] = refl
  filter-passed q so (x ∷ xs) = by (q x) (p x) refl refl (filter-passed q so xs)
    where
      by : (b c : Bool) → q x ≡ b → p x ≡ c → filter p (filter q xs) ≡ filter p xs
          → filter p (cond b (x ∷ filter q xs) (filter q xs)) ≡ cond c (x ∷ filter p xs) (filter p xs)
      by true true one two rest = ap (λ t. cond t (x ∷ filter p (filter q xs)) (filter p (filter q xs))) two ∙ ap (λ l. x ∷ l) rest
      by true false one two rest = ap (λ t. cond t (x ∷ filter p (filter q xs)) (filter p (filter q xs))) two ∙ rest
      by false true one two rest = absurd (true≢false (sym (so x two) ∙ one))
      by false false one two rest = rest

abbrev of_store : ℕ → StoreRow → Bool
of_store id r = r.store.0 == id

-- rows of one store stand as a set's rows do
one-store : (id : ℕ) (r x : StoreRow) → of_store id r ≡ true → of_store id x ≡ true → store_row_cmp r x ≡ row_cmp r.row x.row
one-store id r x one two =
    let same : r.store.0 ≡ x.store.0 = eqb-true r.store.0 id one ∙ sym (eqb-true x.store.0 id two) in
    λ i. ordering_then (cond (le-ltb r.store.0 x.store.0 (not_above same) i) Less (cond (eq-eqb r.store.0 x.store.0 same i) Equal Greater)) (row_cmp r.row x.row)
  where
    not_above : r.store.0 ≡ x.store.0 → x.store.0 ≤ r.store.0
    not_above same = omega (arith, same)

module _ (id : ℕ) (x : StoreRow) (own : of_store id x ≡ true) where
  abbrev row_of : StoreRow → Row
  row_of r = r.row

  map-placed : (ys : List StoreRow) → AllByRecursion (λ r. of_store id r ≡ true) ys → map row_of (placed store_row_cmp ys x) ≡ placed row_cmp (map row_of ys) x.row
  map-placed [] all = refl
  map-placed (y ∷ ys) all = by (store_row_cmp x y) (one-store id x y own all.0) (map-placed ys all.1)
    where
      by : (r : Ordering) → r ≡ row_cmp x.row y.row → map row_of (placed store_row_cmp ys x) ≡ placed row_cmp (map row_of ys) x.row
          → map row_of (cond (is_lt r) (x ∷ y ∷ ys) (y ∷ placed store_row_cmp ys x)) ≡ cond (is_lt (row_cmp x.row y.row)) (x.row ∷ y.row ∷ map row_of ys) (y.row ∷ placed row_cmp (map row_of ys) x.row)
      by Less is rest = ap (λ r. cond (is_lt r) (x.row ∷ y.row ∷ map row_of ys) (y.row ∷ placed row_cmp (map row_of ys) x.row)) is
      by Equal is rest = ap (λ l. y.row ∷ l) rest ∙ ap (λ r. cond (is_lt r) (x.row ∷ y.row ∷ map row_of ys) (y.row ∷ placed row_cmp (map row_of ys) x.row)) is
      by Greater is rest = ap (λ l. y.row ∷ l) rest ∙ ap (λ r. cond (is_lt r) (x.row ∷ y.row ∷ map row_of ys) (y.row ∷ placed row_cmp (map row_of ys) x.row)) is

  map-apart : (ys : List StoreRow) → AllByRecursion (λ r. of_store id r ≡ true) ys
      → map row_of (filter (is_apart store_row_cmp x) ys) ≡ filter (is_apart row_cmp x.row) (map row_of ys)
  map-apart [] all = refl
  map-apart (y ∷ ys) all = by (store_row_cmp x y) (one-store id x y own all.0) (map-apart ys all.1)
    where
      by : (r : Ordering) → r ≡ row_cmp x.row y.row → map row_of (filter (is_apart store_row_cmp x) ys) ≡ filter (is_apart row_cmp x.row) (map row_of ys)
          → map row_of (cond (not (is_eq r)) (y ∷ filter (is_apart store_row_cmp x) ys) (filter (is_apart store_row_cmp x) ys))
          ≡ cond (not (is_eq (row_cmp x.row y.row))) (y.row ∷ filter (is_apart row_cmp x.row) (map row_of ys)) (filter (is_apart row_cmp x.row) (map row_of ys))
      by Less is rest = ap (λ l. y.row ∷ l) rest ∙ ap (λ r. cond (not (is_eq r)) (y.row ∷ filter (is_apart row_cmp x.row) (map row_of ys)) (filter (is_apart row_cmp x.row) (map row_of ys))) is
      by Equal is rest = rest ∙ ap (λ r. cond (not (is_eq r)) (y.row ∷ filter (is_apart row_cmp x.row) (map row_of ys)) (filter (is_apart row_cmp x.row) (map row_of ys))) is
      by Greater is rest = ap (λ l. y.row ∷ l) rest ∙ ap (λ r. cond (not (is_eq r)) (y.row ∷ filter (is_apart row_cmp x.row) (map row_of ys)) (filter (is_apart row_cmp x.row) (map row_of ys))) is

  pub own-more : (rows : List StoreRow) → IsStrictlySortedBy store_row_cmp rows → rows_in id (rows_with rows x) ≡ with_row (rows_in id rows) x.row
  own-more rows rise =
      let apart = is_apart store_row_cmp x in
      ap (map row_of) (placed-kept order (of_store id) (filter apart rows) x (rising-filter order apart rows rise) own
      ∙ ap (λ l. placed store_row_cmp l x) (filter-turned order (of_store id) apart rows))
      ∙ map-placed (filter apart (filter (of_store id) rows)) (each-filter _ apart (filter (of_store id) rows) (kept-same id rows))
      ∙ ap (λ l. placed row_cmp l x.row) (map-apart (filter (of_store id) rows) (kept-same id rows))

pub others-kept : (id : ℕ) (x : StoreRow) (rows : List StoreRow) → (x.store.0 == id) ≡ false → rows_in id (rows_with rows x) ≡ rows_in id rows
others-kept id x rows other =
    ap (map (λ (r : StoreRow). r.row))
    (placed-dropped order (of_store id) (filter (is_apart store_row_cmp x) rows) x other
    ∙ filter-passed order (of_store id) (is_apart store_row_cmp x) passes rows)
  where
    passes : (y : StoreRow) → of_store id y ≡ true → is_apart store_row_cmp x y ≡ true
    passes y own = by (is_eq (store_row_cmp x y)) refl
      where
        by : (b : Bool) → is_eq (store_row_cmp x y) ≡ b → not b ≡ true
        by false is = refl
        by true is =
            let stores = first_so (x.store.0 == y.store.0) (is_eq (row_cmp x.row y.row)) (sym (ties x y) ∙ is) in
            let same : x.store.0 ≡ id = eqb-true x.store.0 y.store.0 stores ∙ eqb-true y.store.0 id own in
            absurd (true≢false (sym (eq-eqb x.store.0 id same) ∙ other))
