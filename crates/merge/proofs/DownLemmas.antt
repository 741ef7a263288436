-- The row that comes next going down.
use Rattle.std.proofs.Common.{◌≡◌, ℕ, suc, ◌<◌, ◌≤◌, Bool, true, false, true≢false, cond, List, Option, Some, None, refl, sym, ap, ◌∙◌, arith}
use Rattle.std.specs.Prelude.{slice_get}
use Rattle.std.specs.declared.cmp.Ordering.{Ordering}
use Rattle.std.specs.declared.cmp.Ordering.TheVariants.{Less, Equal, Greater}
use Rattle.std.specs.Ordering.{nat_cmp, is_gt, ordering_reverse}
use Rattle.std.specs.Cmp.Lexicographic.{slice_cmp}
use Rattle.std.specs.List.Sorted.{IsStrictlySortedBy}
use Rattle.hse_rows.specs.declared.row.Row.{Row}
use Rattle.hse_rows.specs.writes.Change.{target}
use Rattle.hse_rows.specs.rows.Newest.{row_cmp}
use Rattle.hse_rows.specs.rows.Meaning.{is_own, own_at}
use Rattle.hse_rows.specs.script.Cursor.{Position, forward, backward, past_key, direction_cmp, is_reached}
use Rattle.row_laws.specs.Merging.{is_key_row}
use Rattle.sorted_lists.specs.laws.Orders.{turned}
use Rattle.merge.specs.Places.{stands_before, place_by, if_key, is_of}
use Rattle.merge.specs.First.{IsFirstIn}
use Rattle.merge.proofs.OrderLemmas.{direction_order, same_key, tied_key, reach-up}
use Rattle.merge.proofs.SourceLemmas.{own-target, own-keyed, keyed-own, key-prefix, sorted-at, Stands, three, IsCutAt, cut-is}
use Rattle.merge.proofs.HeadLemmas.{two-less, test-key, test-prefix, test-false, keys-apart, none-past, same-at, none-first, found-first, not-less}

module _ (position : Position) (rows : List Row) (rise : IsStrictlySortedBy row_cmp rows) where
  -- what is asked for stands before the place
  down-before : (p : ℕ) → IsCutAt (stands_before backward position) rows p
      → (key : List ℕ) (r : Row) → is_reached backward position key ≡ true → (stands : Stands key rows r) → stands.index < p
  down-before p cut key r asks stands =
      three stands.index p (λ less. less) (λ eq. absurd (off (omega (arith, eq)))) (λ more. absurd (off (omega (arith, more))))
    where
      off : p ≤ stands.index → ⊥
      off more =
          true≢false (sym (test-key backward position r (own-keyed r key stands.own) ∙ ap (is_reached backward position) (own-target r key stands.own) ∙ asks)
          ∙ cut.rest stands.index r stands.there more)

  below-key : (i n : ℕ) (r row : Row) → slice_get rows i ≡ Some r → slice_get rows n ≡ Some row → i < suc n → is_key_row r ≡ true → is_key_row row ≡ false → ⊥
  below-key i n r row one two less keyed prefixed =
      three i n
      (λ low. two-less (row_cmp r row) (sorted-at rows i n r row rise one two low) (key-prefix r row keyed prefixed))
      (λ eq. true≢false (sym keyed ∙ ap is_key_row (same-at rows i n r row one two eq) ∙ prefixed))
      (λ high. omega (arith, less, high))

  down-first_by : (n : ℕ) → IsCutAt (stands_before backward position) rows (suc n) → (o : Option Row) → slice_get rows n ≡ o
      → IsFirstIn backward (λ key. own_at key rows) (is_reached backward position) (if_key o)
  down-first_by n cut None none =
      none-first backward position rows rise
      (λ key r asks stands.
      let high = cut.within in
      let past = none-past rows n none in
      omega (arith, high, past))
  down-first_by n cut (Some row) there = by (is_key_row row) refl
    where
      by : (b : Bool) → is_key_row row ≡ b → IsFirstIn backward (λ key. own_at key rows) (is_reached backward position) (cond b (Some row) None)
      by false prefixed =
          none-first backward position rows rise
          (λ key r asks stands. below-key stands.index n r row stands.there there (down-before (suc n) cut key r asks stands) (own-keyed r key stands.own) prefixed)
      by true keyed =
          found-first backward position rows rise n row there keyed
          (sym (test-key backward position row keyed) ∙ cut.front n row there (omega arith))
          (λ key r asks stands less.
          let low = down-before (suc n) cut key r asks stands in
          three stands.index n
          (λ below.
          two-less (direction_cmp backward key (target row.change)) less
          (ap ordering_reverse (ap (λ (k : List ℕ). slice_cmp nat_cmp k (target row.change)) (sym (own-target r key stands.own))
          ∙ keys-apart rows stands.index n r row rise stands.there there below (own-keyed r key stands.own) keyed)))
          (λ eq. not-less backward position rows rise row key r stands (same-at rows stands.index n r row stands.there there eq) less)
          (λ above. omega (arith, low, above)))

  pub down-none : IsCutAt (stands_before backward position) rows 0 → IsFirstIn backward (λ key. own_at key rows) (is_reached backward position) None
  down-none cut = none-first backward position rows rise (λ key r asks stands. let low = down-before 0 cut key r asks stands in omega (arith, low))

  pub down-first : (n : ℕ) → IsCutAt (stands_before backward position) rows (suc n)
      → IsFirstIn backward (λ key. own_at key rows) (is_reached backward position) (if_key (slice_get rows n))
  down-first n cut = down-first_by n cut (slice_get rows n) refl

  module _ (k : List ℕ) (reached : is_reached backward position k ≡ true) where
    -- what stands behind the place stands behind one further on
    down-rest : (p : ℕ) → IsCutAt (stands_before backward position) rows p → (i : ℕ) (r : Row) → slice_get rows i ≡ Some r → p ≤ i
        → stands_before backward (past_key k) r ≡ false
    down-rest p cut i r there more = test-key backward (past_key k) r keyed ∙ by (slice_cmp nat_cmp (target r.change) k) refl
      where
        keyed : is_key_row r ≡ true
        keyed = test-false backward position r (cut.rest i r there more)

        off : is_reached backward position (target r.change) ≡ false
        off = sym (test-key backward position r keyed) ∙ cut.rest i r there more

        by : (c : Ordering) → slice_cmp nat_cmp (target r.change) k ≡ c → is_gt (ordering_reverse c) ≡ false
        by Less e =
            absurd (true≢false (sym (reach-up backward position k (target r.change)
            (ap ordering_reverse (turned (direction_order forward) (target r.change) k Less e)) reached) ∙ off))
        by Equal e = refl
        by Greater e = refl

    down-below : (r : Row) → (is_key_row r ≡ true → slice_cmp nat_cmp (target r.change) k ≡ Less) → stands_before backward (past_key k) r ≡ true
    down-below r below = by (is_key_row r) refl
      where
        by : (b : Bool) → is_key_row r ≡ b → stands_before backward (past_key k) r ≡ true
        by false prefixed = test-prefix backward (past_key k) r prefixed
        by true keyed = test-key backward (past_key k) r keyed ∙ ap (λ c. is_gt (ordering_reverse c)) (below keyed)

    pub down-zero : IsCutAt (stands_before backward position) rows 0 → 0 ≡ place_by backward (past_key k) rows
    down-zero cut =
        sym (cut-is (stands_before backward (past_key k)) rows 0 (record {
          within = omega arith;
          front = λ i r there less. absurd (omega (arith, less));
          rest = down-rest 0 cut;
        }))

    module _ (n : ℕ) (cut : IsCutAt (stands_before backward position) rows (suc n)) where
      down-key : (h : Row) → slice_get rows n ≡ Some h → is_key_row h ≡ true
          → (direction_cmp backward (target h.change) k ≡ Less → ⊥) → (b : Bool) → is_own k h ≡ b
          → cond b n (suc n) ≡ place_by backward (past_key k) rows
      down-key h there keyed soonest true own =
          sym (cut-is (stands_before backward (past_key k)) rows n (record {
            within = let high = cut.within in omega (arith, high);
            front = λ i r is less.
                down-below r
                (λ kr. ap (slice_cmp nat_cmp (target r.change)) (sym (own-target h k own))
                ∙ keys-apart rows i n r h rise is there less kr keyed);
            rest = λ i r is more.
                three n i
                (λ low. down-rest (suc n) cut i r is (omega (arith, low)))
                (λ eq.
                test-key backward (past_key k) r (ap is_key_row (same-at rows i n r h is there (sym eq)) ∙ keyed)
                ∙ ap (λ (x : List ℕ). is_gt (ordering_reverse (slice_cmp nat_cmp x k)))
                (ap (λ (x : Row). target x.change) (same-at rows i n r h is there (sym eq)) ∙ own-target h k own)
                ∙ ap (λ c. is_gt (ordering_reverse c)) (tied_key forward k))
                (λ high. absurd (omega (arith, more, high)));
          }))
      down-key h there keyed soonest false apart =
          sym (cut-is (stands_before backward (past_key k)) rows (suc n) (record {
            within = cut.within;
            front = λ i r is less.
                three i n
                (λ low. down-below r
                (λ kr. (direction_order forward).trans (target r.change) (target h.change) k (keys-apart rows i n r h rise is there low kr keyed) under))
                (λ eq. down-below r
                (λ kr. ap (λ (x : Row). slice_cmp nat_cmp (target x.change) k) (same-at rows i n r h is there eq) ∙ under))
                (λ high. absurd (omega (arith, less, high)));
            rest = down-rest (suc n) cut;
          }))
        where
          by : (c : Ordering) → slice_cmp nat_cmp (target h.change) k ≡ c → c ≡ Less
          by Less e = refl
          by Equal e = absurd (true≢false (sym (ap (λ (x : List ℕ). is_own x h) (sym (same_key forward (target h.change) k e)) ∙ keyed-own h keyed) ∙ apart))
          by Greater e = absurd (soonest (ap ordering_reverse e))

          under : slice_cmp nat_cmp (target h.change) k ≡ Less
          under = by (slice_cmp nat_cmp (target h.change) k) refl

      down-passed_by : (o : Option Row) → slice_get rows n ≡ o
          → ((h : Row) → if_key o ≡ Some h → direction_cmp backward (target h.change) k ≡ Less → ⊥)
          → cond (is_of k (if_key o)) n (suc n) ≡ place_by backward (past_key k) rows
      down-passed_by None none soonest =
          let high = cut.within in
          let past = none-past rows n none in
          absurd (omega (arith, high, past))
      down-passed_by (Some h) there soonest = by (is_key_row h) refl soonest
        where
          by : (b : Bool) → is_key_row h ≡ b
              → ((x : Row) → cond b (Some h) None ≡ Some x → direction_cmp backward (target x.change) k ≡ Less → ⊥)
              → cond (is_of k (cond b (Some h) None)) n (suc n) ≡ place_by backward (past_key k) rows
          by true keyed soon = down-key h there keyed (soon h refl) (is_own k h) refl
          by false prefixed soon =
              sym (cut-is (stands_before backward (past_key k)) rows (suc n) (record {
                within = cut.within;
                front = λ i r is less.
                    down-below r (λ kr. absurd (below-key i n r h is there less kr prefixed));
                rest = down-rest (suc n) cut;
              }))

      pub down-passed : ((h : Row) → if_key (slice_get rows n) ≡ Some h → direction_cmp backward (target h.change) k ≡ Less → ⊥)
          → cond (is_of k (if_key (slice_get rows n))) n (suc n) ≡ place_by backward (past_key k) rows
      down-passed soonest = down-passed_by (slice_get rows n) refl soonest
