-- A row that applies last in a layer, in place of the older one of its key or prefix, in front of older rows.
use Rattle.std.proofs.Common.{◌≡◌, ℕ, ◌<◌, ◌==◌, Bool, true, false, true≢false, cond, not, ◌&&◌, List, [], ◌∷◌, ◌++◌, map, Option, Some, None, refl, sym, ap, ◌∙◌, subst, append_assoc, arith}
use Rattle.std.proofs.lemmas.Bool.{eqb-true, eq-eqb}
use Rattle.std.specs.Ordering.{is_lt, eq_by_cmp}
use Rattle.std.specs.List.{AllByRecursion, filter}
use Rattle.std.specs.FinMap as fin_map
use Rattle.hse_rows.specs.declared.row.Row.{Row}
use Rattle.hse_rows.specs.writes.Change.{target}
use Rattle.hse_rows.specs.writes.NormalForm.{rank, same}
use Rattle.hse_rows.specs.writes.Sorted.{placed}
use Rattle.hse_rows.specs.writes.Reach.{reaches, leaves}
use Rattle.hse_rows.specs.rows.Meaning.{apply_cmp, contents_of, is_own, is_covering, newer, own_at, greater, covered_at, said, value_said}
use Rattle.hse_rows.specs.states.State.{changed}
use Rattle.hse_rows.specs.laws.Holding.{get-changed, same_contents}
use Rattle.row_laws.specs.Laws.{KeysHoldNewestRows}
use Rattle.row_laws.specs.Step.{AppliesLast}
use Rattle.ingest_tree.specs.declared.store_row.StoreRow.{StoreRow}
use Rattle.ingest_tree.specs.Rows.{store_row_cmp, store_row, row_numbered, rows_in, rows_with}
use Rattle.ingest_tree.specs.Stores.{OthersKeepTheirRows}
use Rattle.sorted_lists.specs.laws.Lists.{each-weaker, each-append, each-front, each-rest}
use Rattle.view.specs.Laws.{LayersTakeRows}
use Rattle.view.proofs.NewestLemmas.{and-false, both, tie-parts, tie-reaches, own-alike, rank-small, after-other, own-rank, own-below, cover-up_to, own-wins, cover-wins, own-passes, cover-passes, said-own, said-cover, leaves-none, OwnLess, CoverUpTo}

-- ---- a layer with one more row

-- the rows of a store before one and behind it
record IsSplit (with without : List Row) (row : Row) : Type 0 where
  front : List Row
  rest : List Row
  with_is : with ≡ front ++ row ∷ rest
  without_is : without ≡ front ++ rest

module _ (id : ℕ) (sr : StoreRow) (here : (sr.store.0 == id) ≡ true) where
  first-in : (ys : List StoreRow) → rows_in id (sr ∷ ys) ≡ sr.row ∷ rows_in id ys
  first-in ys = ap (λ b. map (λ (r : StoreRow). r.row) (cond b (sr ∷ filter (λ (r : StoreRow). r.store.0 == id) ys) (filter (λ (r : StoreRow). r.store.0 == id) ys))) here

  split : (ys : List StoreRow) → IsSplit (rows_in id (placed store_row_cmp ys sr)) (rows_in id ys) sr.row
  split [] = record { front = []; rest = []; with_is = first-in []; without_is = refl }
  split (y ∷ ys) = by (is_lt (store_row_cmp sr y)) (split ys)
    where
      by : (b : Bool) → IsSplit (rows_in id (placed store_row_cmp ys sr)) (rows_in id ys) sr.row
          → IsSplit (rows_in id (cond b (sr ∷ y ∷ ys) (y ∷ placed store_row_cmp ys sr))) (rows_in id (y ∷ ys)) sr.row
      by true later = record { front = []; rest = rows_in id (y ∷ ys); with_is = first-in (y ∷ ys); without_is = refl }
      by false later =
          elim (y.store.0 == id)
          as (λ b. IsSplit (map (λ (r : StoreRow). r.row) (cond b (y ∷ filter (λ (r : StoreRow). r.store.0 == id) (placed store_row_cmp ys sr)) (filter (λ (r : StoreRow). r.store.0 == id) (placed store_row_cmp ys sr))))
          (map (λ (r : StoreRow). r.row) (cond b (y ∷ filter (λ (r : StoreRow). r.store.0 == id) ys) (filter (λ (r : StoreRow). r.store.0 == id) ys))) sr.row) [
            | true ↦ record {
              front = y.row ∷ later.front;
              rest = later.rest;
              with_is = ap (λ (l : List Row). y.row ∷ l) later.with_is;
              without_is = ap (λ (l : List Row). y.row ∷ l) later.without_is;
            }
            | false ↦ later
          ]

  abbrev kept : List StoreRow → List StoreRow
  kept ys = filter (λ other. not (eq_by_cmp store_row_cmp sr other)) ys

  module _ (y : StoreRow) (ys : List StoreRow) where
    in-store : (y.store.0 == id) ≡ true → rows_in id (y ∷ ys) ≡ y.row ∷ rows_in id ys
    in-store is = ap (λ b. map (λ (r : StoreRow). r.row) (cond b (y ∷ filter (λ (r : StoreRow). r.store.0 == id) ys) (filter (λ (r : StoreRow). r.store.0 == id) ys))) is

    off-store : (y.store.0 == id) ≡ false → rows_in id (y ∷ ys) ≡ rows_in id ys
    off-store is = ap (λ b. map (λ (r : StoreRow). r.row) (cond b (y ∷ filter (λ (r : StoreRow). r.store.0 == id) ys) (filter (λ (r : StoreRow). r.store.0 == id) ys))) is

  -- what holds of each row of the store that stays
  each-kept : (P Q : Row → Type 0)
      → ((y : StoreRow) → (y.store.0 == id) ≡ true → eq_by_cmp store_row_cmp sr y ≡ false → P y.row → Q y.row)
      → (ys : List StoreRow) → AllByRecursion P (rows_in id ys) → AllByRecursion Q (rows_in id (kept ys))
  each-kept P Q so [] all = tt
  each-kept P Q so (y ∷ ys) all = by (eq_by_cmp store_row_cmp sr y) (y.store.0 == id) refl refl (each-kept P Q so ys)
    where
      by : (t s : Bool) → eq_by_cmp store_row_cmp sr y ≡ t → (y.store.0 == id) ≡ s
          → (AllByRecursion P (rows_in id ys) → AllByRecursion Q (rows_in id (kept ys)))
          → AllByRecursion Q (rows_in id (cond (not t) (y ∷ kept ys) (kept ys)))
      by true true tied is more = let parts = subst (AllByRecursion P) (in-store y ys is) all in more parts.1
      by true false tied is more = more (subst (AllByRecursion P) (off-store y ys is) all)
      by false true apart is more =
          let parts = subst (AllByRecursion P) (in-store y ys is) all in
          subst (AllByRecursion Q) (sym (in-store y (kept ys) is)) (so y is apart parts.0, more parts.1)
      by false false apart is more =
          subst (AllByRecursion Q) (sym (off-store y (kept ys) is)) (more (subst (AllByRecursion P) (off-store y ys is) all))

  -- what rows that do not reach a key leave as it is
  same-kept : {X : Type 0} (key : List ℕ) (F : List Row → X)
      → ((x : Row) (rest : List Row) → reaches x.change key ≡ false → F (x ∷ rest) ≡ F rest)
      → ((x : Row) (one other : List Row) → F one ≡ F other → F (x ∷ one) ≡ F (x ∷ other))
      → reaches sr.row.change key ≡ false → (ys : List StoreRow) → F (rows_in id (kept ys)) ≡ F (rows_in id ys)
  same-kept {X} key F skip more out [] = refl
  same-kept {X} key F skip more out (y ∷ ys) = by (eq_by_cmp store_row_cmp sr y) (y.store.0 == id) refl refl (same-kept key F skip more out ys)
    where
      by : (t s : Bool) → eq_by_cmp store_row_cmp sr y ≡ t → (y.store.0 == id) ≡ s → F (rows_in id (kept ys)) ≡ F (rows_in id ys)
          → F (rows_in id (cond (not t) (y ∷ kept ys) (kept ys))) ≡ F (rows_in id (y ∷ ys))
      by true true tied is rest =
          rest ∙ sym (skip y.row (rows_in id ys) (sym (tie-reaches sr y key tied) ∙ out)) ∙ ap F (sym (in-store y ys is))
      by true false tied is rest = rest ∙ ap F (sym (off-store y ys is))
      by false true apart is rest =
          ap F (in-store y (kept ys) is) ∙ more y.row (rows_in id (kept ys)) (rows_in id ys) rest ∙ ap F (sym (in-store y ys is))
      by false false apart is rest = ap F (off-store y (kept ys) is) ∙ rest ∙ ap F (sym (off-store y ys is))

  module _ (keys : KeysHoldNewestRows) (ys : List StoreRow) (behind : List Row)
      (last : AppliesLast (rows_in id ys) sr.row) (low : AllByRecursion (λ (x : Row). x.number < sr.row.number) behind) where
    abbrev row : Row
    row = sr.row

    module _ (key : List ℕ) where
      abbrev parts : IsSplit (rows_in id (placed store_row_cmp (kept ys) sr)) (rows_in id (kept ys)) sr.row
      parts = split (kept ys)

      abbrev far : List Row
      far = parts.rest ++ behind

      with-is : rows_in id (placed store_row_cmp (kept ys) sr) ++ behind ≡ parts.front ++ row ∷ far
      with-is = ap (λ (l : List Row). l ++ behind) parts.with_is ∙ append_assoc parts.front (row ∷ parts.rest) behind

      without-is : parts.front ++ far ≡ rows_in id (kept ys) ++ behind
      without-is = sym (append_assoc parts.front parts.rest behind) ∙ ap (λ (l : List Row). l ++ behind) (sym parts.without_is)

      module _ (P : Row → Type 0) (stay : AllByRecursion P (rows_in id (kept ys))) (older : AllByRecursion P behind) where
        in-front : AllByRecursion P parts.front
        in-front = each-front P parts.front parts.rest (subst (AllByRecursion P) parts.without_is stay)

        in-far : AllByRecursion P far
        in-far = each-append P parts.rest behind (each-rest P parts.front parts.rest (subst (AllByRecursion P) parts.without_is stay)) older

      covers-up : AllByRecursion (CoverUpTo key row.number) (rows_in id (kept ys))
      covers-up =
          each-kept (λ (x : Row). is_lt (apply_cmp row x) ≡ false) (CoverUpTo key row.number)
          (λ y is apart before covers.
          let order = after-other row y.row before in
          let small = rank-small row.change in
          omega (arith, order, small)) ys last

      older-own : AllByRecursion (OwnLess key row.number) behind
      older-own = each-weaker {Q = OwnLess key row.number} (λ (x : Row) less own. less) behind low

      older-cover : AllByRecursion (CoverUpTo key row.number) behind
      older-cover = each-weaker {Q = CoverUpTo key row.number} (λ (x : Row) less own. omega (arith, less)) behind low

      abbrev said-of : List Row → Option (List ℕ)
      said-of l = value_said (said (own_at key l) (covered_at key l))

      passes-by : reaches row.change key ≡ false → said-of (rows_in id (kept ys) ++ behind) ≡ said-of (rows_in id ys ++ behind)
      passes-by out =
          λ i. value_said (said
          (same-kept key (λ l. own_at key (l ++ behind))
          (λ x rest off. ap (λ b. newer (cond b (Some x) None) (own_at key (rest ++ behind))) (and-false (not (rank x.change == 0)) (reaches x.change key) off))
          (λ x one other same_rest. ap (newer (cond (is_own key x) (Some x) None)) same_rest) out ys i)
          (same-kept key (λ l. covered_at key (l ++ behind))
          (λ x rest off. ap (λ b. greater (cond b (Some x.number) None) (covered_at key (rest ++ behind))) (and-false (rank x.change == 0) (reaches x.change key) off))
          (λ x one other same_rest. ap (greater (cond (is_covering key x) (Some x.number) None)) same_rest) out ys i))

      out-of : reaches row.change key ≡ false → said-of (parts.front ++ row ∷ far) ≡ said-of (rows_in id ys ++ behind)
      out-of out =
          (λ i. value_said (said
          (own-passes key row far (and-false (not (rank row.change == 0)) (reaches row.change key) out) parts.front i)
          (cover-passes key row far (and-false (rank row.change == 0) (reaches row.change key) out) parts.front i)))
          ∙ ap said-of without-is
          ∙ passes-by out

      deleted : (rank row.change == 0) ≡ true → reaches row.change key ≡ true → said-of (parts.front ++ row ∷ far) ≡ leaves row.change
      deleted delete reached =
          let rank-is = eqb-true (rank row.change) 0 delete in
          let stay : AllByRecursion (OwnLess key row.number) (rows_in id (kept ys)) =
          each-kept (λ (x : Row). is_lt (apply_cmp row x) ≡ false) (OwnLess key row.number)
          (λ y is apart before own.
          let order = after-other row y.row before in
          let one = own-rank y.row.change key own in
          omega (arith, order, one, rank-is)) ys last in
          (λ i. value_said (said
          (own-passes key row far ((λ j. not (delete j) && reaches row.change key)) parts.front i)
          (cover-wins key row far (both (rank row.change == 0) (reaches row.change key) delete reached) parts.front
          (in-front _ covers-up older-cover) (in-far _ covers-up older-cover) i)))
          ∙ said-cover (own_at key (parts.front ++ far)) row.number
          (own-below key row.number (parts.front ++ far) (each-append _ parts.front far (in-front _ stay older-own) (in-far _ stay older-own)))
          ∙ sym (leaves-none row.change delete)

      set : (rank row.change == 0) ≡ false → reaches row.change key ≡ true → said-of (parts.front ++ row ∷ far) ≡ leaves row.change
      set change reached =
          let own : is_own key row ≡ true = both (not (rank row.change == 0)) (reaches row.change key) (ap not change) reached in
          let stay : AllByRecursion (OwnLess key row.number) (rows_in id (kept ys)) =
          each-kept (λ (x : Row). is_lt (apply_cmp row x) ≡ false) (OwnLess key row.number)
          (λ y is apart before theirs.
          absurd
          (true≢false
          (sym (tie-parts sr y
          ∙ both (sr.store.0 == y.store.0) ((rank sr.row.change == rank y.row.change) && same (target sr.row.change) (target y.row.change))
          (eq-eqb sr.store.0 y.store.0 (eqb-true sr.store.0 id here ∙ sym (eqb-true y.store.0 id is)))
          (own-alike sr.row.change y.row.change key own theirs))
          ∙ apart))) ys last in
          (λ i. value_said (said
          (own-wins key row far own parts.front (in-front _ stay older-own) (in-far _ stay older-own) i)
          (cover-passes key row far ((λ j. change j && reaches row.change key)) parts.front i)))
          ∙ said-own row (covered_at key (parts.front ++ far))
          (cover-up_to key row.number (parts.front ++ far)
          (each-append _ parts.front far (in-front _ covers-up older-cover) (in-far _ covers-up older-cover)))

      get-more : fin_map.get (contents_of (rows_in id (placed store_row_cmp (kept ys) sr) ++ behind)) key
          ≡ cond (reaches row.change key) (leaves row.change) (fin_map.get (contents_of (rows_in id ys ++ behind)) key)
      get-more = keys (rows_in id (placed store_row_cmp (kept ys) sr) ++ behind) key ∙ ap said-of with-is ∙ by (reaches row.change key) refl
        where
          within : reaches row.change key ≡ true → (b : Bool) → (rank row.change == 0) ≡ b → said-of (parts.front ++ row ∷ far) ≡ leaves row.change
          within reached true delete = deleted delete reached
          within reached false change = set change reached

          by : (b : Bool) → reaches row.change key ≡ b
              → said-of (parts.front ++ row ∷ far) ≡ cond b (leaves row.change) (fin_map.get (contents_of (rows_in id ys ++ behind)) key)
          by true reached = within reached (rank row.change == 0) refl
          by false out = out-of out ∙ sym (keys (rows_in id ys ++ behind) key)

    -- it changes the contents by its change
    taken : contents_of (rows_in id (rows_with ys sr) ++ behind) ≡ changed (contents_of (rows_in id ys ++ behind)) row.change
    taken = same_contents _ _ (λ key. get-more key ∙ sym (get-changed (contents_of (rows_in id ys ++ behind)) row.change key))

pub layers-take : KeysHoldNewestRows → OthersKeepTheirRows → LayersTakeRows
layers-take keys others layer write number id behind last low = by (write.store.0 == id) refl
  where
    sr : StoreRow
    sr = store_row write.store (row_numbered number write.change)

    by : (b : Bool) → (write.store.0 == id) ≡ b
        → contents_of (rows_in id (rows_with layer sr) ++ behind)
        ≡ cond b (changed (contents_of (rows_in id layer ++ behind)) write.change) (contents_of (rows_in id layer ++ behind))
    by true here = taken id sr here keys layer behind last low
    by false off = ap (λ (l : List Row). contents_of (l ++ behind)) (others layer write.store (row_numbered number write.change) id off)
