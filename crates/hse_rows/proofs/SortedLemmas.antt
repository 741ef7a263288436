-- Lists that strictly rise by a total order: how a filter and a new element keep them so, and what the place that a
-- search answers tells.
use Rattle.std.proofs.Common.{◌≡◌, ℕ, zero, suc, ◌<◌, ◌≤◌, Bool, true, false, true≢false, cond, not, List, [], ◌∷◌, ◌++◌, length, get_or, set, refl, ap, sym, ◌∙◌, arith, append_assoc, append-nil, add-one}
use Rattle.std.specs.declared.cmp.Ordering.{Ordering}
use Rattle.std.specs.declared.cmp.Ordering.TheVariants.{Less, Equal, Greater}
use Rattle.std.specs.Ordering.{is_lt, is_eq, eq_by_cmp, ordering_index, ordering_reverse}
use Rattle.std.specs.List.{AllByRecursion, AllWithin, filter, insert, fold}
use Rattle.std.specs.List.Sorted.{IsStrictlySortedBy, IsNonDecreasingBy}
use Rattle.std.specs.Cmp.{IsTotalOrder, alike_right}
use Rattle.std.proofs.lemmas.List.Sums.{fold-append}
use Rattle.std.proofs.lemmas.List.Sorted.{searchable_from_sorted}
use Rattle.hse_rows.specs.writes.Sorted.{placed, sorted}

module _ {X : Type 0} where
  pub each-weaker : {P Q : X → Type 0} → ((x : X) → P x → Q x) → (xs : List X) → AllByRecursion P xs → AllByRecursion Q xs
  each-weaker f [] all = tt
  each-weaker f (x ∷ xs) all = (f x all.0, each-weaker f xs all.1)

  pub each-filter : (P : X → Type 0) (p : X → Bool) (xs : List X) → AllByRecursion P xs → AllByRecursion P (filter p xs)
  each-filter P p [] all = tt
  each-filter P p (x ∷ xs) all =
      elim (p x) as (λ b. AllByRecursion P (cond b (x ∷ filter p xs) (filter p xs)))
      [ true ↦ (all.0, each-filter P p xs all.1) | false ↦ each-filter P p xs all.1 ]

  pub each-last : (P : X → Type 0) (xs : List X) (x : X) → AllByRecursion P xs → P x → AllByRecursion P (xs ++ x ∷ [])
  each-last P [] x all last = (last, tt)
  each-last P (y ∷ ys) x all last = (all.0, each-last P ys x all.1 last)

  -- an element at an index
  pub each-at : (P : X → Type 0) (xs : List X) (i : ℕ) (d : X) → AllByRecursion P xs → i < length xs → P (get_or xs i d)
  each-at P [] i d all in' = absurd (omega arith)
  each-at P (x ∷ xs) zero d all in' = all.0
  each-at P (x ∷ xs) (suc i) d all in' = each-at P xs i d all.1 (omega arith)

  -- a test that each passes keeps all
  pub filter-all : (p : X → Bool) (xs : List X) → AllByRecursion (λ x. p x ≡ true) xs → filter p xs ≡ xs
  filter-all p [] all = refl
  filter-all p (x ∷ xs) all =
      ap (λ b. cond b (x ∷ filter p xs) (filter p xs)) all.0 ∙ ap (λ l. x ∷ l) (filter-all p xs all.1)

  pub filter-alike : (p q : X → Bool) → ((x : X) → p x ≡ q x) → (xs : List X) → filter p xs ≡ filter q xs
  filter-alike p q alike [] = refl
  filter-alike p q alike (x ∷ xs) = λ i. cond (alike x i) (x ∷ filter-alike p q alike xs i) (filter-alike p q alike xs i)

module _ {X : Type 0} {R : X → X → Ordering} (o : IsTotalOrder R) where
  pub turned : (x y : X) (r : Ordering) → R x y ≡ r → R y x ≡ ordering_reverse r
  turned x y r is = o.antisymm y x ∙ ap ordering_reverse is

  pub below-below : (x y : X) (ys : List X) → R x y ≡ Less → AllByRecursion (λ z. R y z ≡ Less) ys → AllByRecursion (λ z. R x z ≡ Less) ys
  below-below x y ys less below = each-weaker (λ z h. o.trans x y z less h) ys below

  pub rising-filter : (p : X → Bool) (xs : List X) → IsStrictlySortedBy R xs → IsStrictlySortedBy R (filter p xs)
  unfolding IsStrictlySortedBy
  rising-filter p [] rise = tt
  rising-filter p (x ∷ xs) rise =
      elim (p x) as (λ b. IsStrictlySortedBy R (cond b (x ∷ filter p xs) (filter p xs)))
      [ true ↦ (each-filter _ p xs rise.0, rising-filter p xs rise.1) | false ↦ rising-filter p xs rise.1 ]

  -- below all, it stands at the front
  pub placed-front : (xs : List X) (x : X) → AllByRecursion (λ y. R x y ≡ Less) xs → placed R xs x ≡ x ∷ xs
  placed-front [] x below = refl
  placed-front (y ∷ ys) x below = ap (λ r. cond (is_lt r) (x ∷ y ∷ ys) (y ∷ placed R ys x)) below.0

  -- not below any, it stands at the end
  pub placed-last : (xs : List X) (x : X) → AllByRecursion (λ y. is_lt (R x y) ≡ false) xs → placed R xs x ≡ xs ++ x ∷ []
  placed-last [] x above = refl
  placed-last (y ∷ ys) x above =
      ap (λ b. cond b (x ∷ y ∷ ys) (y ∷ placed R ys x)) above.0 ∙ ap (λ l. y ∷ l) (placed-last ys x above.1)

  -- what holds of each and of x
  pub each-placed : (P : X → Type 0) (xs : List X) (x : X) → AllByRecursion P xs → P x → AllByRecursion P (placed R xs x)
  each-placed P [] x all h = (h, tt)
  each-placed P (y ∷ ys) x all h =
      elim (is_lt (R x y)) as (λ b. AllByRecursion P (cond b (x ∷ y ∷ ys) (y ∷ placed R ys x)))
      [ true ↦ (h, (all.0, all.1)) | false ↦ (all.0, each-placed P ys x all.1 h) ]

  rising-placed_by : (y : X) (ys : List X) (x : X) (r : Ordering) → R x y ≡ r → is_eq (R x y) ≡ false → IsStrictlySortedBy R (y ∷ ys) → IsStrictlySortedBy R (placed R ys x) → IsStrictlySortedBy R (cond (is_lt r) (x ∷ y ∷ ys) (y ∷ placed R ys x))
  unfolding IsStrictlySortedBy
  rising-placed_by y ys x Less is apart rise more = ((is, below-below x y ys is rise.0), rise)
  rising-placed_by y ys x Equal is apart rise more = absurd (true≢false (sym (ap is_eq is) ∙ apart))
  rising-placed_by y ys x Greater is apart rise more = (each-placed _ ys x rise.0 (turned x y Greater is), more)

  -- a new element that ties with none keeps the list rising
  pub rising-placed : (xs : List X) (x : X) → IsStrictlySortedBy R xs → AllByRecursion (λ y. is_eq (R x y) ≡ false) xs → IsStrictlySortedBy R (placed R xs x)
  unfolding IsStrictlySortedBy
  rising-placed [] x rise apart = (tt, tt)
  rising-placed (y ∷ ys) x rise apart =
      rising-placed_by y ys x (R x y) refl apart.0 rise (rising-placed ys x rise.1 apart.1)

  -- a filter of a list in order, with x put in its place
  Ascends : List X → Type 0
  Ascends [] = Unit {0}
  Ascends (x ∷ xs) = AllByRecursion (λ y. is_lt (R y x) ≡ false) xs × Ascends xs

  less-then : (x y z : X) (r : Ordering) → R x y ≡ Less → R y z ≡ r → is_lt (R z y) ≡ false → R x z ≡ Less
  less-then x y z Less less is not_less = o.trans x y z less is
  less-then x y z Equal less is not_less = sym (alike_right o y z x is) ∙ less
  less-then x y z Greater less is not_less = absurd (true≢false (sym (ap is_lt (turned y z Greater is)) ∙ not_less))

  below-ascending : (x y : X) (ys : List X) → R x y ≡ Less → AllByRecursion (λ z. is_lt (R z y) ≡ false) ys → AllByRecursion (λ z. R x z ≡ Less) ys
  below-ascending x y ys less all = each-weaker (λ z h. less-then x y z (R y z) less refl h) ys all

  greater-not_lt : (x y : X) → R x y ≡ Less → is_lt (R y x) ≡ false
  greater-not_lt x y less = ap is_lt (turned x y Less less)

  ascends-placed_by : (y : X) (ys : List X) (x : X) (r : Ordering) → R x y ≡ r → Ascends (y ∷ ys) → Ascends (placed R ys x) → Ascends (cond (is_lt r) (x ∷ y ∷ ys) (y ∷ placed R ys x))
  unfolding Ascends
  ascends-placed_by y ys x Less is up more =
      ((greater-not_lt x y is, each-weaker (λ z h. greater-not_lt x z h) ys (below-ascending x y ys is up.0)), up)
  ascends-placed_by y ys x Equal is up more = (each-placed _ ys x up.0 (ap is_lt is), more)
  ascends-placed_by y ys x Greater is up more = (each-placed _ ys x up.0 (ap is_lt is), more)

  ascends-placed : (xs : List X) (x : X) → Ascends xs → Ascends (placed R xs x)
  unfolding Ascends
  ascends-placed [] x up = (tt, tt)
  ascends-placed (y ∷ ys) x up = ascends-placed_by y ys x (R x y) refl up (ascends-placed ys x up.1)

  module _ (p : X → Bool) where
    -- x in its place among those that are kept, where it is kept
    kept : Bool → List X → X → List X
    kept true xs x = placed R (filter p xs) x
    kept false xs x = filter p xs

    kept-front : (b : Bool) (xs : List X) (x : X) → AllByRecursion (λ y. R x y ≡ Less) xs → cond b (x ∷ filter p xs) (filter p xs) ≡ kept b xs x
    unfolding kept
    kept-front true xs x below = sym (placed-front (filter p xs) x (each-filter _ p xs below))
    kept-front false xs x below = refl

    kept-behind : (b c : Bool) (y : X) (ys : List X) (x : X) → p y ≡ c → is_lt (R x y) ≡ false → cond c (y ∷ kept b ys x) (kept b ys x) ≡ kept b (y ∷ ys) x
    unfolding kept
    kept-behind false true y ys x is above = ap (λ c. cond c (y ∷ filter p ys) (filter p ys)) (sym is)
    kept-behind false false y ys x is above = ap (λ c. cond c (y ∷ filter p ys) (filter p ys)) (sym is)
    kept-behind true true y ys x is above =
        ap (λ c. cond c (x ∷ y ∷ filter p ys) (y ∷ placed R (filter p ys) x)) (sym above)
        ∙ ap (λ c. placed R (cond c (y ∷ filter p ys) (filter p ys)) x) (sym is)
    kept-behind true false y ys x is above = ap (λ c. placed R (cond c (y ∷ filter p ys) (filter p ys)) x) (sym is)

    filter-placed_by : (y : X) (ys : List X) (x : X) (r : Ordering) → R x y ≡ r → Ascends (y ∷ ys) → filter p (placed R ys x) ≡ kept (p x) ys x → filter p (cond (is_lt r) (x ∷ y ∷ ys) (y ∷ placed R ys x)) ≡ kept (p x) (y ∷ ys) x
    unfolding Ascends
    filter-placed_by y ys x Less is up more =
        kept-front (p x) (y ∷ ys) x (is, below-ascending x y ys is up.0)
    filter-placed_by y ys x Equal is up more =
        ap (λ l. cond (p y) (y ∷ l) l) more ∙ kept-behind (p x) (p y) y ys x refl (ap is_lt is)
    filter-placed_by y ys x Greater is up more =
        ap (λ l. cond (p y) (y ∷ l) l) more ∙ kept-behind (p x) (p y) y ys x refl (ap is_lt is)

    filter-placed : (xs : List X) (x : X) → Ascends xs → filter p (placed R xs x) ≡ kept (p x) xs x
    unfolding Ascends
    filter-placed [] x up = elim (p x) as (λ b. cond b (x ∷ []) [] ≡ kept b [] x) [ true ↦ unfold kept in refl | false ↦ unfold kept in refl ]
    filter-placed (y ∷ ys) x up =
        filter-placed_by y ys x (R x y) refl up (filter-placed ys x up.1)

    fold-kept : (b : Bool) (acc xs : List X) (x : X) → fold (placed R) (kept b acc x) xs ≡ fold (placed R) (filter p acc) (cond b (x ∷ xs) xs)
    unfolding kept
    fold-kept true acc xs x = refl
    fold-kept false acc xs x = refl

    fold-filter : (acc xs : List X) → Ascends acc → filter p (fold (placed R) acc xs) ≡ fold (placed R) (filter p acc) (filter p xs)
    fold-filter acc [] up = refl
    fold-filter acc (x ∷ xs) up =
        fold-filter (placed R acc x) xs (ascends-placed acc x up)
        ∙ ap (λ l. fold (placed R) l (filter p xs)) (filter-placed acc x up)
        ∙ fold-kept (p x) acc (filter p xs) x

    -- a filter of what is put in order
    pub filter-sorted : (xs : List X) → filter p (sorted R xs) ≡ sorted R (filter p xs)
    filter-sorted xs = fold-filter [] xs (unfold Ascends in tt)

  pub sorted-last : (xs : List X) (x : X) → sorted R (xs ++ x ∷ []) ≡ placed R (sorted R xs) x
  sorted-last xs x = fold-append (placed R) [] xs (x ∷ [])

  fold-rising : (acc xs : List X) → IsStrictlySortedBy R xs → AllByRecursion (λ x. AllByRecursion (λ y. is_lt (R x y) ≡ false) acc) xs → fold (placed R) acc xs ≡ acc ++ xs
  unfolding IsStrictlySortedBy
  fold-rising acc [] rise above = sym (append-nil acc)
  fold-rising acc (x ∷ xs) rise above =
      ap (λ l. fold (placed R) l xs) (placed-last acc x above.0)
      ∙ fold-rising (acc ++ x ∷ []) xs rise.1
      (each-both xs above.1 (each-weaker (λ z h. greater-not_lt x z h) xs rise.0))
      ∙ append_assoc acc (x ∷ []) xs
    where
      each-both : (ys : List X) → AllByRecursion (λ z. AllByRecursion (λ y. is_lt (R z y) ≡ false) acc) ys → AllByRecursion (λ z. is_lt (R z x) ≡ false) ys → AllByRecursion (λ z. AllByRecursion (λ y. is_lt (R z y) ≡ false) (acc ++ x ∷ [])) ys
      each-both [] all last = tt
      each-both (z ∷ zs) all last = (each-last _ acc x all.0 last.0, each-both zs all.1 last.1)

  each-none : (xs : List X) → AllByRecursion (λ x. AllByRecursion (λ y. is_lt (R x y) ≡ false) []) xs
  each-none [] = tt
  each-none (x ∷ xs) = (tt, each-none xs)

  -- a rising list is in order
  pub sorted-rising : (xs : List X) → IsStrictlySortedBy R xs → sorted R xs ≡ xs
  sorted-rising xs rise = fold-rising [] xs rise (each-none xs)

  -- the tests that drop what ties with x
  abbrev pub parted : X → X → Bool
  parted x y = not (eq_by_cmp R x y)

  step : (ys : List X) (k : ℕ) (d : X) → IsStrictlySortedBy R ys → suc k < length ys → is_lt (R (get_or ys (suc k) d) (get_or ys k d)) ≡ false
  unfolding IsStrictlySortedBy
  step [] k d up in' = absurd (omega arith)
  step (y ∷ ys) zero d up in' =
      ap is_lt (turned _ _ Less (each-at _ ys zero d up.0 (omega arith)))
  step (y ∷ ys) (suc k) d up in' = step ys k d up.1 (omega arith)

  -- what a search for x in a rising list answers
  pub searchable : (xs : List X) (x : X) → IsStrictlySortedBy R xs → IsNonDecreasingBy (λ y. ordering_index (R y x)) xs
  searchable xs x rise =
      searchable_from_sorted o (λ y. y) xs x
      (λ k d low high. rw (add-one) (step xs k d rise (let h : suc k < length xs = omega arith in h)))

  parted-above : (x y : X) (ys : List X) → R y x ≡ Equal → AllByRecursion (λ z. R y z ≡ Less) ys → AllByRecursion (λ z. R x z ≡ Less) ys
  parted-above x y ys tied below = each-weaker (λ z h. sym (o.congr y x z tied) ∙ h) ys below

  parted-each : (x : X) (ys : List X) → AllByRecursion (λ z. R x z ≡ Less) ys → AllByRecursion (λ z. parted x z ≡ true) ys
  parted-each x ys below = each-weaker (λ z h. ap (λ r. not (is_eq r)) h) ys below

  -- where an element ties with x, x takes its place
  pub set-found : (xs : List X) (x : X) (i : ℕ) (d : X) → IsStrictlySortedBy R xs → i < length xs → R (get_or xs i d) x ≡ Equal → set xs i x ≡ placed R (filter (parted x) xs) x
  unfolding IsStrictlySortedBy
  set-found [] x i d rise in' tied = absurd (omega arith)
  set-found (y ∷ ys) x zero d rise in' tied =
      let above : AllByRecursion (λ z. R x z ≡ Less) ys = parted-above x y ys tied rise.0 in
      sym (
      ap (λ r. placed R (cond (not (is_eq r)) (y ∷ filter (parted x) ys) (filter (parted x) ys)) x) (turned y x Equal tied)
      ∙ ap (λ l. placed R l x) (filter-all (parted x) ys (parted-each x ys above))
      ∙ placed-front ys x above)
  set-found (y ∷ ys) x (suc i) d rise in' tied =
      let less : R y x ≡ Less = sym (alike_right o _ x y tied) ∙ each-at _ ys i d rise.0 (omega arith) in
      let greater : R x y ≡ Greater = turned y x Less less in
      ap (λ l. y ∷ l) (set-found ys x i d rise.1 (omega arith) tied)
      ∙ sym (
      ap (λ r. placed R (cond (not (is_eq r)) (y ∷ filter (parted x) ys) (filter (parted x) ys)) x) greater
      ∙ ap (λ r. cond (is_lt r) (x ∷ y ∷ filter (parted x) ys) (y ∷ placed R (filter (parted x) ys) x)) greater)

  -- x stands between the elements below the place and those above it
  pub record IsPlace (xs : List X) (x : X) (i : ℕ) : Type 0 where
    pub within : i ≤ length xs
    pub below : AllWithin (λ y. R y x ≡ Less) xs 0 i
    pub above : AllWithin (λ y. R y x ≡ Greater) xs i (length xs)

  place-later : (x y : X) (ys : List X) (i : ℕ) → IsPlace (y ∷ ys) x (suc i) → IsPlace ys x i
  place-later x y ys i place = record {
    within = let h = place.within in omega arith;
    below = λ k d low high. place.below (suc k) d (omega arith) (omega arith);
    above = λ k d low high. place.above (suc k) d (omega arith) (omega arith);
  }

  place-past : (x y : X) (ys : List X) → IsPlace (y ∷ ys) x zero → IsPlace ys x zero
  place-past x y ys place = record {
    within = omega arith;
    below = λ k d low high. absurd (omega arith);
    above = λ k d low high. place.above (suc k) d (omega arith) (omega arith);
  }

  -- no element ties with x there
  pub apart-missing : (xs : List X) (x : X) (i : ℕ) → IsPlace xs x i → AllByRecursion (λ y. is_eq (R x y) ≡ false) xs
  apart-missing [] x i place = tt
  apart-missing (y ∷ ys) x zero place = (
    ap is_eq (turned y x Greater (place.above zero y (omega arith) (omega arith))),
    apart-missing ys x zero (place-past x y ys place),
  )
  apart-missing (y ∷ ys) x (suc i) place = (
    ap is_eq (turned y x Less (place.below zero y (omega arith) (omega arith))),
    apart-missing ys x i (place-later x y ys i place),
  )

  above-missing : (xs : List X) (x : X) → IsPlace xs x zero → AllByRecursion (λ y. R x y ≡ Less) xs
  above-missing [] x place = tt
  above-missing (y ∷ ys) x place = (
    turned y x Greater (place.above zero y (omega arith) (omega arith)),
    above-missing ys x (place-past x y ys place),
  )

  -- and an insert there is x in its place
  pub insert-missing : (xs : List X) (x : X) (i : ℕ) → IsPlace xs x i → insert xs i x ≡ placed R xs x
  insert-missing [] x zero place = refl
  insert-missing [] x (suc i) place = let h = place.within in absurd (omega arith)
  insert-missing (y ∷ ys) x zero place = sym (placed-front (y ∷ ys) x (above-missing (y ∷ ys) x place))
  insert-missing (y ∷ ys) x (suc i) place =
      ap (λ l. y ∷ l) (insert-missing ys x i (place-later x y ys i place))
      ∙ ap (λ r. cond (is_lt r) (x ∷ y ∷ ys) (y ∷ placed R ys x))
      (sym (turned y x Less (place.below zero y (omega arith) (omega arith))))

  -- what parted keeps ties with x no more
  pub apart-parted : (xs : List X) (x : X) → AllByRecursion (λ y. is_eq (R x y) ≡ false) (filter (parted x) xs)
  apart-parted [] x = tt
  apart-parted (y ∷ ys) x = apart-parted_by y ys x (is_eq (R x y)) refl (apart-parted ys x)
    where
      apart-parted_by : (y : X) (ys : List X) (x : X) (b : Bool) → is_eq (R x y) ≡ b → AllByRecursion (λ z. is_eq (R x z) ≡ false) (filter (parted x) ys) → AllByRecursion (λ z. is_eq (R x z) ≡ false) (cond (not b) (y ∷ filter (parted x) ys) (filter (parted x) ys))
      apart-parted_by y ys x true is all = all
      apart-parted_by y ys x false is all = (is, all)

  -- a rising list with x in place of what ties with it rises
  pub rising-replaced : (xs : List X) (x : X) → IsStrictlySortedBy R xs → IsStrictlySortedBy R (placed R (filter (parted x) xs) x)
  rising-replaced xs x rise =
      rising-placed (filter (parted x) xs) x (rising-filter (parted x) xs rise) (apart-parted xs x)
