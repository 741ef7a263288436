-- The row that comes next from a position's place is the first of the source's own rows there.
use Rattle.std.proofs.Common.{◌≡◌, ℕ, zero, suc, ◌<◌, ◌≤◌, ◌==◌, Bool, true, false, true≢false, cond, not, ◌||◌, List, [], ◌∷◌, length, Option, Some, None, refl, sym, ap, ◌∙◌, subst, arith}
use Rattle.std.proofs.lemmas.Option.{slice_get_within}
use Rattle.std.specs.Prelude.{slice_get}
use Rattle.std.specs.declared.cmp.Ordering.{Ordering}
use Rattle.std.specs.declared.cmp.Ordering.TheVariants.{Less, Equal, Greater}
use Rattle.std.specs.Ordering.{nat_cmp, is_gt, ordering_reverse}
use Rattle.std.specs.Cmp.Lexicographic.{slice_cmp}
use Rattle.std.specs.List.Sorted.{IsStrictlySortedBy}
use Rattle.hse_rows.specs.declared.row.Row.{Row}
use Rattle.hse_rows.specs.writes.Change.{target}
use Rattle.hse_rows.specs.writes.NormalForm.{rank}
use Rattle.hse_rows.specs.rows.Newest.{row_cmp}
use Rattle.hse_rows.specs.rows.Meaning.{is_own, own_at}
use Rattle.hse_rows.specs.script.Cursor.{Direction, Position, forward, backward, past_key, direction_cmp, is_reached}
use Rattle.row_laws.specs.Merging.{is_key_row}
use Rattle.sorted_lists.specs.laws.Orders.{turned}
use Rattle.merge.specs.Places.{is_parted, stands_before, place_by, is_of}
use Rattle.merge.specs.First.{IsFirstIn}
use Rattle.merge.proofs.OrderLemmas.{direction_order, same_key, tied_key, reach-up}
use Rattle.merge.proofs.SourceLemmas.{own-target, own-keyed, keyed-own, keys-cmp, key-prefix, some-is, sorted-at, Stands, own-index, three, index-own, IsCutAt, cut-is, IsFront, front-cut}

-- two outcomes of one comparison
pub two-less : (r : Ordering) → r ≡ Less → r ≡ Greater → ⊥
two-less r one two = let e : Less ≡ Greater = sym one ∙ two in absurd cc

pub two-tied : (r : Ordering) → r ≡ Less → r ≡ Equal → ⊥
two-tied r one two = let e : Less ≡ Equal = sym one ∙ two in absurd cc

or-not : (a b : Bool) → (not a || b) ≡ false → a ≡ true
or-not true b e = refl
or-not false b e = absurd (true≢false e)

or-rest : (a b : Bool) → (not a || b) ≡ false → b ≡ false
or-rest true b e = e
or-rest false b e = absurd (true≢false e)

pub not-false : (a : Bool) → not a ≡ false → a ≡ true
not-false true e = refl
not-false false e = absurd (true≢false e)

pub not-true : (a : Bool) → not a ≡ true → a ≡ false
not-true true e = absurd (true≢false (sym e))
not-true false e = refl

-- a prefix delete's rank is 0, and that of a key's row is not
pub test-key : (direction : Direction) (position : Position) (row : Row) → is_key_row row ≡ true
    → stands_before direction position row ≡ is_parted direction position (target row.change)
test-key direction position row keyed = by (rank row.change == 0) keyed
  where
    by : (b : Bool) → not b ≡ true → (b || is_parted direction position (target row.change)) ≡ is_parted direction position (target row.change)
    by true e = absurd (true≢false (sym e))
    by false e = refl

pub test-prefix : (direction : Direction) (position : Position) (row : Row) → is_key_row row ≡ false → stands_before direction position row ≡ true
test-prefix direction position row keyed = by (rank row.change == 0) keyed
  where
    by : (b : Bool) → not b ≡ false → (b || is_parted direction position (target row.change)) ≡ true
    by true e = refl
    by false e = absurd (true≢false e)

pub test-false : (direction : Direction) (position : Position) (row : Row) → stands_before direction position row ≡ false → is_key_row row ≡ true
test-false direction position row off = by (is_key_row row) refl
  where
    by : (b : Bool) → is_key_row row ≡ b → b ≡ true
    by true e = refl
    by false e = absurd (true≢false (sym (test-prefix direction position row e) ∙ off))

-- keys below a parted one are parted
parted-down : (direction : Direction) (position : Position) (x y : List ℕ) → slice_cmp nat_cmp x y ≡ Less → is_parted direction position y ≡ true
    → is_parted direction position x ≡ true
parted-down forward position x y less off = by (is_reached forward position x) refl
  where
    by : (b : Bool) → is_reached forward position x ≡ b → not b ≡ true
    by true e = absurd (true≢false (sym (reach-up forward position x y less e) ∙ not-true (is_reached forward position y) off))
    by false e = refl
parted-down backward position x y less on = reach-up backward position y x (ap ordering_reverse (turned (direction_order forward) x y Less less)) on

-- the rows before a place are a front
pub stands-front : (direction : Direction) (position : Position) (rows : List Row) → IsStrictlySortedBy row_cmp rows → IsFront (stands_before direction position) rows
unfolding IsFront
stands-front direction position rows rise i j a b one two less is = by (is_key_row a) refl (is_key_row b) refl
  where
    below : row_cmp a b ≡ Less
    below = sorted-at rows i j a b rise one two less

    by : (s : Bool) → is_key_row a ≡ s → (t : Bool) → is_key_row b ≡ t → stands_before direction position a ≡ true
    by false ka t kb = test-prefix direction position a ka
    by true ka false kb = absurd (two-less (row_cmp a b) below (key-prefix a b ka kb))
    by true ka true kb =
        test-key direction position a ka
        ∙ parted-down direction position (target a.change) (target b.change) (sym (keys-cmp a b ka kb) ∙ below) (sym (test-key direction position b kb) ∙ is)

module _ (direction : Direction) (position : Position) (rows : List Row) (rise : IsStrictlySortedBy row_cmp rows) where
  pub place-cut : IsCutAt (stands_before direction position) rows (place_by direction position rows)
  place-cut = front-cut (stands_before direction position) rows (stands-front direction position rows rise)

-- in one set each key stands once
pub keys-apart : (rows : List Row) (i j : ℕ) (a b : Row) → IsStrictlySortedBy row_cmp rows → slice_get rows i ≡ Some a → slice_get rows j ≡ Some b → i < j
    → is_key_row a ≡ true → is_key_row b ≡ true → slice_cmp nat_cmp (target a.change) (target b.change) ≡ Less
keys-apart rows i j a b rise one two less ka kb = sym (keys-cmp a b ka kb) ∙ sorted-at rows i j a b rise one two less

pub none-past : (xs : List Row) (p : ℕ) → slice_get xs p ≡ None → length xs ≤ p
none-past [] p is = omega arith
none-past (x ∷ xs) zero is = let e : Some x ≡ None = is in absurd cc
none-past (x ∷ xs) (suc p) is = let h = none-past xs p is in omega (arith, h)

pub same-at : (xs : List Row) (i j : ℕ) (a b : Row) → slice_get xs i ≡ Some a → slice_get xs j ≡ Some b → i ≡ j → a ≡ b
same-at xs i j a b one two eq = some-is a b (sym one ∙ ap (slice_get xs) eq ∙ two)

module _ (direction : Direction) (position : Position) (rows : List Row) (rise : IsStrictlySortedBy row_cmp rows) where
  only-none : (key : List ℕ) → ((r : Row) → Stands key rows r → ⊥) → (o : Option Row) → own_at key rows ≡ o → o ≡ None
  only-none key contra None e = refl
  only-none key contra (Some r) e = absurd (contra r (own-index key rows r e))

  pub none-first : ((key : List ℕ) (r : Row) → is_reached direction position key ≡ true → Stands key rows r → ⊥)
      → IsFirstIn direction (λ key. own_at key rows) (is_reached direction position) None
  none-first contra = λ key asks. only-none key (λ r. contra key r asks) (own_at key rows) refl

  pub found-first : (q : ℕ) (row : Row) → slice_get rows q ≡ Some row → is_key_row row ≡ true → is_reached direction position (target row.change) ≡ true
      → ((key : List ℕ) (r : Row) → is_reached direction position key ≡ true → Stands key rows r → direction_cmp direction key (target row.change) ≡ Less → ⊥)
      → IsFirstIn direction (λ key. own_at key rows) (is_reached direction position) (Some row)
  found-first q row there keyed reached contra = (
    reached,
    index-own (target row.change) rows q row rise there (keyed-own row keyed),
    λ key asks less. only-none key (λ r stands. contra key r asks stands less) (own_at key rows) refl,
  )

  pub not-less : (row : Row) (key : List ℕ) (r : Row) → Stands key rows r → r ≡ row → direction_cmp direction key (target row.change) ≡ Less → ⊥
  not-less row key r stands eq less =
      two-tied (direction_cmp direction key (target row.change)) less
      (ap (direction_cmp direction key) (ap (λ (x : Row). target x.change) (sym eq) ∙ own-target r key stands.own) ∙ tied_key direction key)

module _ (position : Position) (rows : List Row) (rise : IsStrictlySortedBy row_cmp rows) (p : ℕ) where
  -- going up
  module _ (cut : IsCutAt (stands_before forward position) rows p) where
    up-behind : (key : List ℕ) (r : Row) → is_reached forward position key ≡ true → (stands : Stands key rows r) → p ≤ stands.index
    up-behind key r asks stands =
        three stands.index p
        (λ less. absurd (true≢false (sym asks ∙ ap (is_reached forward position) (sym (own-target r key stands.own))
        ∙ not-true (is_reached forward position (target r.change))
        (sym (test-key forward position r (own-keyed r key stands.own)) ∙ cut.front stands.index r stands.there less))))
        (λ eq. omega (arith, eq)) (λ less. omega (arith, less))

    up-keyed : (i : ℕ) (r : Row) → slice_get rows i ≡ Some r → p ≤ i → is_key_row r ≡ true
    up-keyed i r there more = test-false forward position r (cut.rest i r there more)

    up-reached : (i : ℕ) (r : Row) → slice_get rows i ≡ Some r → p ≤ i → is_reached forward position (target r.change) ≡ true
    up-reached i r there more =
        not-false (is_reached forward position (target r.change))
        (sym (test-key forward position r (up-keyed i r there more)) ∙ cut.rest i r there more)

    pub up-first : (found : Option Row) → slice_get rows p ≡ found → IsFirstIn forward (λ key. own_at key rows) (is_reached forward position) found
    up-first None none =
        none-first forward position rows rise
        (λ key r asks stands.
        let low = up-behind key r asks stands in
        let high = slice_get_within rows stands.index r stands.there in
        let past = none-past rows p none in
        omega (arith, low, high, past))
    up-first (Some row) there =
        found-first forward position rows rise p row there (up-keyed p row there (omega arith)) (up-reached p row there (omega arith))
        (λ key r asks stands less.
        let low = up-behind key r asks stands in
        three p stands.index
        (λ more.
        two-less (slice_cmp nat_cmp key (target row.change)) less
        (ap (λ (k : List ℕ). slice_cmp nat_cmp k (target row.change)) (sym (own-target r key stands.own))
        ∙ turned (direction_order forward) (target row.change) (target r.change) Less
        (keys-apart rows p stands.index row r rise there stands.there more (up-keyed p row there (omega arith)) (own-keyed r key stands.own))))
        (λ eq. not-less forward position rows rise row key r stands (same-at rows stands.index p r row stands.there there (sym eq)) less)
        (λ more. omega (arith, low, more)))

    module _ (k : List ℕ) (reached : is_reached forward position k ≡ true)
        (soonest : (h : Row) → slice_get rows p ≡ Some h → slice_cmp nat_cmp (target h.change) k ≡ Less → ⊥) where
      up-front : (i : ℕ) (r : Row) → slice_get rows i ≡ Some r → i < p → stands_before forward (past_key k) r ≡ true
      up-front i r there less = by (is_key_row r) refl
        where
          off : is_key_row r ≡ true → is_reached forward position (target r.change) ≡ false
          off keyed = not-true (is_reached forward position (target r.change)) (sym (test-key forward position r keyed) ∙ cut.front i r there less)

          at : is_key_row r ≡ true → (c : Ordering) → slice_cmp nat_cmp (target r.change) k ≡ c → not (is_gt c) ≡ true
          at keyed Less e = refl
          at keyed Equal e = refl
          at keyed Greater e =
              absurd (true≢false (sym (reach-up forward position k (target r.change) (turned (direction_order forward) (target r.change) k Greater e) reached) ∙ off keyed))

          by : (b : Bool) → is_key_row r ≡ b → stands_before forward (past_key k) r ≡ true
          by false keyed = test-prefix forward (past_key k) r keyed
          by true keyed = test-key forward (past_key k) r keyed ∙ at keyed (slice_cmp nat_cmp (target r.change) k) refl

      up-above : (r : Row) → is_key_row r ≡ true → slice_cmp nat_cmp (target r.change) k ≡ Greater → stands_before forward (past_key k) r ≡ false
      up-above r keyed above = test-key forward (past_key k) r keyed ∙ ap (λ c. not (is_gt c)) above

      up-over : (h : Row) → slice_get rows p ≡ Some h → is_own k h ≡ false → slice_cmp nat_cmp (target h.change) k ≡ Greater
      up-over h there apart = by (slice_cmp nat_cmp (target h.change) k) refl
        where
          by : (c : Ordering) → slice_cmp nat_cmp (target h.change) k ≡ c → c ≡ Greater
          by Less e = absurd (soonest h there e)
          by Equal e =
              absurd (true≢false (sym (ap (λ (x : List ℕ). is_own x h) (sym (same_key forward (target h.change) k e)) ∙ keyed-own h (up-keyed p h there (omega arith))) ∙ apart))
          by Greater e = refl

      pub up-passed : (o : Option Row) → slice_get rows p ≡ o → cond (is_of k o) (suc p) p ≡ place_by forward (past_key k) rows
      up-passed None none =
          sym (cut-is (stands_before forward (past_key k)) rows p (record {
            within = cut.within;
            front = up-front;
            rest = λ i r there more.
                let high = slice_get_within rows i r there in
                let past = none-past rows p none in
                absurd (omega (arith, more, high, past));
          }))
      up-passed (Some h) there = by (is_own k h) refl
        where
          by : (b : Bool) → is_own k h ≡ b → cond b (suc p) p ≡ place_by forward (past_key k) rows
          by true own =
              sym (cut-is (stands_before forward (past_key k)) rows (suc p) (record {
                within = let high = slice_get_within rows p h there in omega (arith, high);
                front = λ i r is less.
                    three i p (λ low. up-front i r is low)
                    (λ eq.
                    test-key forward (past_key k) r (subst (λ (x : Row). is_key_row x ≡ true) (same-at rows p i h r there is (sym eq)) (own-keyed h k own))
                    ∙ ap (λ (x : List ℕ). not (is_gt (slice_cmp nat_cmp x k))) (ap (λ (x : Row). target x.change) (same-at rows i p r h is there eq) ∙ own-target h k own)
                    ∙ ap (λ c. not (is_gt c)) (tied_key forward k))
                    (λ high. absurd (omega (arith, less, high)));
                rest = λ i r is more.
                    up-above r (up-keyed i r is (omega (arith, more)))
                    (ap (slice_cmp nat_cmp (target r.change)) (sym (own-target h k own))
                    ∙ turned (direction_order forward) (target h.change) (target r.change) Less
                    (keys-apart rows p i h r rise there is (omega (arith, more)) (own-keyed h k own) (up-keyed i r is (omega (arith, more)))));
              }))
          by false apart =
              sym (cut-is (stands_before forward (past_key k)) rows p (record {
                within = cut.within;
                front = up-front;
                rest = λ i r is more.
                    three p i
                    (λ low.
                    up-above r (up-keyed i r is more)
                    (turned (direction_order forward) k (target r.change) Less
                    ((direction_order forward).trans k (target h.change) (target r.change)
                    (turned (direction_order forward) (target h.change) k Greater (up-over h there apart))
                    (keys-apart rows p i h r rise there is low (up-keyed p h there (omega arith)) (up-keyed i r is more)))))
                    (λ eq.
                    up-above r (up-keyed i r is more)
                    (ap (λ (x : Row). slice_cmp nat_cmp (target x.change) k) (same-at rows i p r h is there (sym eq)) ∙ up-over h there apart))
                    (λ high. absurd (omega (arith, more, high)));
              }))
