-- Of elements put one after another, each in place of one that ties with it and is not greater, those are left that none
-- outdoes, each once.
use Rattle.std.proofs.Common.{◌≡◌, ℕ, ◌≤◌, ◌==◌, Bool, true, false, true≢false, cond, not, ltb, ◌&&◌, ◌||◌, List, [], ◌∷◌, ◌++◌, Option, Some, None, refl, sym, ap, ◌∙◌, subst, arith, eq-eqb, append_assoc, append-nil}
use Rattle.std.proofs.lemmas.Bool.{lt-ltb, le-ltb, ltb-true, ltb-false, eqb-true}
use Rattle.std.specs.declared.cmp.Ordering.{Ordering}
use Rattle.std.specs.declared.cmp.Ordering.TheVariants.{Less, Equal, Greater}
use Rattle.std.specs.Ordering.{is_eq, is_lt, ordering_reverse}
use Rattle.std.specs.Cmp.{IsTotalOrder, first_so, second_so}
use Rattle.std.proofs.lemmas.Cmp.{tied_itself}
use Rattle.std.proofs.lemmas.Map.Views.{any-filter_same}
use Rattle.std.specs.List.{AllByRecursion, filter, find, fold, list_any}
use Rattle.std.specs.List.Sorted.{IsStrictlySortedBy}
use Rattle.hse_rows.specs.writes.Sorted.{placed, sorted}
use Rattle.sorted_lists.specs.Places.{is_apart, without, with_one}
use Rattle.sorted_lists.specs.laws.Lists.{each-weaker, each-filter, filter-alike}
use Rattle.sorted_lists.specs.laws.Orders.{placed-front, each-placed, filter-sorted, sorted-last, rising-replaced, turned}
use Rattle.sorted_lists.specs.laws.Parts.{filter-append, without-above}

is-equal : (r : Ordering) → is_eq r ≡ true → r ≡ Equal
is-equal Less e = absurd (true≢false (sym e))
is-equal Equal e = refl
is-equal Greater e = absurd (true≢false (sym e))

turn-eq : (r : Ordering) → is_eq (ordering_reverse r) ≡ is_eq r
turn-eq Less = refl
turn-eq Equal = refl
turn-eq Greater = refl

or-true : (a : Bool) → (a || true) ≡ true
or-true true = refl
or-true false = refl

or-none : (a : Bool) → (a || false) ≡ a
or-none true = refl
or-none false = refl

or-assoc : (a b c : Bool) → ((a || b) || c) ≡ (a || (b || c))
or-assoc true b c = refl
or-assoc false b c = refl

or-swap : (a b : Bool) → (a || b) ≡ (b || a)
or-swap true b = sym (or-true b)
or-swap false b = sym (or-none b)

not-or : (a b : Bool) → (not a && not b) ≡ not (a || b)
not-or true b = refl
not-or false b = refl

module _ {X : Type 0} where
  any-last : (p : X → Bool) (xs : List X) (x : X) → list_any p (xs ++ x ∷ []) ≡ (list_any p xs || p x)
  any-last p [] x = or-none (p x)
  any-last p (y ∷ ys) x = ap (λ b. p y || b) (any-last p ys x) ∙ sym (or-assoc (p y) (list_any p ys) (p x))

  any-weaker : (p q : X → Bool) → ((x : X) → p x ≡ true → q x ≡ true) → (xs : List X) → list_any p xs ≡ true → list_any q xs ≡ true
  any-weaker p q weaker [] some = some
  any-weaker p q weaker (x ∷ xs) some = by (p x) refl some (any-weaker p q weaker xs)
    where
      by : (b : Bool) → p x ≡ b → (b || list_any p xs) ≡ true → (list_any p xs ≡ true → list_any q xs ≡ true) → (q x || list_any q xs) ≡ true
      by true is more rest = ap (λ b. b || list_any q xs) (weaker x is)
      by false is more rest = ap (λ b. q x || b) (rest more) ∙ or-true (q x)

  each-none : (p : X → Bool) (xs : List X) → list_any p xs ≡ false → AllByRecursion (λ x. p x ≡ false) xs
  each-none p [] none = tt
  each-none p (x ∷ xs) none = by (p x) refl none (each-none p xs)
    where
      by : (b : Bool) → p x ≡ b → (b || list_any p xs) ≡ false → (list_any p xs ≡ false → AllByRecursion (λ x. p x ≡ false) xs) → (p x ≡ false) × AllByRecursion (λ x. p x ≡ false) xs
      by true is more rest = absurd (true≢false more)
      by false is more rest = (is, rest more)

  none-each : (p : X → Bool) (xs : List X) → AllByRecursion (λ x. p x ≡ false) xs → list_any p xs ≡ false
  none-each p [] all = refl
  none-each p (x ∷ xs) all = ap (λ b. b || list_any p xs) all.0 ∙ none-each p xs all.1

  filter-two : (p q r : X → Bool) (xs : List X) → AllByRecursion (λ x. (q x && p x) ≡ r x) xs → filter p (filter q xs) ≡ filter r xs
  filter-two p q r [] all = refl
  filter-two p q r (x ∷ xs) all = by (q x) refl (filter-two p q r xs all.1)
    where
      by : (b : Bool) → q x ≡ b → filter p (filter q xs) ≡ filter r xs → filter p (cond b (x ∷ filter q xs) (filter q xs)) ≡ cond (r x) (x ∷ filter r xs) (filter r xs)
      by true is rest = (λ i. cond (p x) (x ∷ rest i) (rest i)) ∙ ap (λ b. cond b (x ∷ filter r xs) (filter r xs)) (ap (λ b. b && p x) (sym is) ∙ all.0)
      by false is rest = rest ∙ ap (λ b. cond b (x ∷ filter r xs) (filter r xs)) (ap (λ b. b && p x) (sym is) ∙ all.0)

module _ {X : Type 0} {R : X → X → Ordering} (o : IsTotalOrder R) (n : X → ℕ) (one : (x y : X) → R x y ≡ Equal → n x ≡ n y → x ≡ y) where
  abbrev pub ties : X → X → Bool
  ties x y = is_eq (R x y)

  abbrev pub beats : X → X → Bool
  beats x y = ltb (n y) (n x) && ties x y

  abbrev pub twins : X → X → Bool
  twins x y = (n y == n x) && ties y x

  abbrev pub once : List X → List X
  once [] = []
  once (x ∷ xs) = cond (list_any (twins x) xs) (once xs) (x ∷ once xs)

  abbrev pub out : List X → X → Bool
  out xs x = list_any (λ y. beats y x) xs

  abbrev pub top : List X → List X
  top xs = sorted R (once (filter (λ x. not (out xs x)) xs))

  twin-same : (x y : X) → twins x y ≡ true → y ≡ x
  twin-same x y is =
      one y x (is-equal (R y x) (second_so (n y == n x) (ties y x) is)) (eqb-true (n y) (n x) (first_so (n y == n x) (ties y x) is))

  once-filter : (q : X → Bool) (xs : List X) → once (filter q xs) ≡ filter q (once xs)
  once-filter q [] = refl
  once-filter q (x ∷ xs) = by (q x) refl (once-filter q xs)
    where
      by : (b : Bool) → q x ≡ b → once (filter q xs) ≡ filter q (once xs)
          → once (cond b (x ∷ filter q xs) (filter q xs)) ≡ filter q (cond (list_any (twins x) xs) (once xs) (x ∷ once xs))
      by true is rest =
          (λ i. cond (any-filter_same (twins x) q true (λ y t. ap q (twin-same x y t) ∙ is) xs i) (rest i) (x ∷ rest i))
          ∙ elim (list_any (twins x) xs) as (λ b. cond b (filter q (once xs)) (x ∷ filter q (once xs)) ≡ filter q (cond b (once xs) (x ∷ once xs)))
          [ true ↦ refl | false ↦ ap (λ b. cond b (x ∷ filter q (once xs)) (filter q (once xs))) (sym is) ]
      by false is rest =
          rest
          ∙ elim (list_any (twins x) xs) as (λ b. filter q (once xs) ≡ filter q (cond b (once xs) (x ∷ once xs)))
          [ true ↦ refl | false ↦ ap (λ b. cond b (x ∷ filter q (once xs)) (filter q (once xs))) (sym is) ]

  once-last : (ys : List X) (x : X) → once (ys ++ x ∷ []) ≡ filter (λ y. not (twins y x)) (once ys) ++ x ∷ []
  once-last [] x = refl
  once-last (y ∷ ys) x =
      ap (λ b. cond b (once (ys ++ x ∷ [])) (y ∷ once (ys ++ x ∷ []))) (any-last (twins y) ys x)
      ∙ (λ i. cond (list_any (twins y) ys || twins y x) (once-last ys x i) (y ∷ once-last ys x i))
      ∙ by (list_any (twins y) ys) (twins y x) refl
    where
      kept : List X
      kept = filter (λ z. not (twins z x)) (once ys)

      by : (a b : Bool) → twins y x ≡ b → cond (a || b) (filter (λ z. not (twins z x)) (once ys) ++ x ∷ []) (y ∷ (filter (λ z. not (twins z x)) (once ys) ++ x ∷ []))
          ≡ filter (λ z. not (twins z x)) (cond a (once ys) (y ∷ once ys)) ++ x ∷ []
      by true b is = refl
      by false true is = ap (λ b. cond (not b) (y ∷ filter (λ z. not (twins z x)) (once ys)) (filter (λ z. not (twins z x)) (once ys)) ++ x ∷ []) (sym is)
      by false false is = ap (λ b. cond (not b) (y ∷ filter (λ z. not (twins z x)) (once ys)) (filter (λ z. not (twins z x)) (once ys)) ++ x ∷ []) (sym is)

  each-once : (P : X → Type 0) (xs : List X) → AllByRecursion P xs → AllByRecursion P (once xs)
  each-once P [] all = tt
  each-once P (x ∷ xs) all =
      elim (list_any (twins x) xs) as (λ b. AllByRecursion P (cond b (once xs) (x ∷ once xs)))
      [ true ↦ each-once P xs all.1 | false ↦ (all.0, each-once P xs all.1) ]

  each-fold : (P : X → Type 0) (acc xs : List X) → AllByRecursion P acc → AllByRecursion P xs → AllByRecursion P (fold (placed R) acc xs)
  each-fold P acc [] all more = all
  each-fold P acc (x ∷ xs) all more = each-fold P (placed R acc x) xs (each-placed o P acc x all more.0) more.1

  each-top : (P : X → Type 0) (xs : List X) → AllByRecursion P xs → AllByRecursion P (top xs)
  each-top P xs all =
      each-fold P [] (once (filter (λ x. not (out xs x)) xs)) tt
      (each-once P (filter (λ x. not (out xs x)) xs) (each-filter P (λ x. not (out xs x)) xs all))

  -- ---- one more

  beat-beat : (x y z : X) → beats x y ≡ true → beats z x ≡ true → beats z y ≡ true
  beat-beat x y z one' two =
      let low = ltb-true (n y) (n x) (first_so (ltb (n y) (n x)) (ties x y) one') in
      let high = ltb-true (n x) (n z) (first_so (ltb (n x) (n z)) (ties z x) two) in
      let tied : ties z y ≡ true =
      ap is_eq (o.congr z x y (is-equal (R z x) (second_so (ltb (n x) (n z)) (ties z x) two))) ∙ second_so (ltb (n y) (n x)) (ties x y) one' in
      ap (λ b. b && ties z y) (lt-ltb (n y) (n z) (omega (arith, low, high))) ∙ tied

  out-beaten : (xs : List X) (x y : X) → out xs x ≡ true → beats x y ≡ true → out xs y ≡ true
  out-beaten xs x y is beaten = any-weaker (λ z. beats z x) (λ z. beats z y) (λ z. beat-beat x y z beaten) xs is

  self-none : (x : X) → beats x x ≡ false
  self-none x = ap (λ b. b && ties x x) (le-ltb (n x) (n x) (let e : n x ≤ n x = omega arith in e))

  absorb : (a b : Bool) → (b ≡ true → a ≡ true) → (a || b) ≡ a
  absorb true b f = refl
  absorb false true f = absurd (true≢false (sym (f refl)))
  absorb false false f = refl

  kept-last : (xs : List X) (x : X) → filter (λ y. not (out (xs ++ x ∷ []) y)) (xs ++ x ∷ [])
      ≡ filter (λ y. not (out xs y || beats x y)) xs ++ cond (not (out xs x || beats x x)) (x ∷ []) []
  kept-last xs x =
      filter-alike (λ y. not (out (xs ++ x ∷ []) y)) (λ y. not (out xs y || beats x y)) (λ y. ap not (any-last (λ z. beats z y) xs x)) (xs ++ x ∷ [])
      ∙ filter-append (λ y. not (out xs y || beats x y)) xs (x ∷ [])

  -- one that is outdone adds nothing
  top-out : (xs : List X) (x : X) → out xs x ≡ true → top (xs ++ x ∷ []) ≡ top xs
  top-out xs x is =
      ap (λ (l : List X). sorted R (once l))
      (kept-last xs x
      ∙ ap (λ b. filter (λ y. not (out xs y || beats x y)) xs ++ cond (not (b || beats x x)) (x ∷ []) []) is
      ∙ append-nil (filter (λ y. not (out xs y || beats x y)) xs)
      ∙ filter-alike (λ y. not (out xs y || beats x y)) (λ y. not (out xs y))
      (λ y. ap not (absorb (out xs y) (beats x y) (out-beaten xs x y is))) xs)

  both-false : (a b : Bool) → ((a && false) || (b && false)) ≡ false
  both-false true true = refl
  both-false true false = refl
  both-false false true = refl
  both-false false false = refl

  and-false : (a b : Bool) → ((a && false) || b) ≡ b
  and-false true b = refl
  and-false false b = refl

  and-true : (a : Bool) → (a && true) ≡ a
  and-true true = refl
  and-true false = refl

  tie-turn : (x y : X) → ties y x ≡ ties x y
  tie-turn x y = ap is_eq (o.antisymm y x) ∙ turn-eq (R x y)

  kept-apart : (x y : X) → beats y x ≡ false → (not (beats x y) && not (twins y x)) ≡ not (ties x y)
  kept-apart x y lost = not-or (beats x y) (twins y x) ∙ ap not (by (ties x y) refl)
    where
      equal : (a : Bool) → ltb (n y) (n x) ≡ a → ltb (n x) (n y) ≡ false → ((a && true) || ((n x == n y) && true)) ≡ true
      equal true is less = refl
      equal false is less =
          let up = ltb-false (n y) (n x) is in
          let down = ltb-false (n x) (n y) less in
          and-true (n x == n y) ∙ eq-eqb (n x) (n y) (let e : n x ≡ n y = omega (arith, up, down) in e)

      by : (t : Bool) → ties x y ≡ t → ((ltb (n y) (n x) && t) || ((n x == n y) && t)) ≡ t
      by false is = both-false (ltb (n y) (n x)) (n x == n y)
      by true is =
          equal (ltb (n y) (n x)) refl
          (sym (and-true (ltb (n x) (n y))) ∙ ap (λ b. ltb (n x) (n y) && b) (sym (tie-turn x y ∙ is)) ∙ lost)

  each-all : {P : X → Type 0} → ((x : X) → P x) → (xs : List X) → AllByRecursion P xs
  each-all f [] = tt
  each-all f (x ∷ xs) = (f x, each-all f xs)

  drop-tied : (x : X) (held : List X) → AllByRecursion (λ y. beats y x ≡ false) held
      → filter (λ y. not (twins y x)) (filter (λ y. not (beats x y)) held) ≡ without R held x
  drop-tied x held all =
      filter-two (λ y. not (twins y x)) (λ y. not (beats x y)) (is_apart R x) held (each-weaker (λ y no. kept-apart x y no) held all)

  -- one that is not outdone takes the place of those that tie with it
  top-in : (xs : List X) (x : X) → out xs x ≡ false → top (xs ++ x ∷ []) ≡ with_one R (top xs) x
  top-in xs x is =
      let nt = λ (y : X). not (twins y x) in
      let nb = λ (y : X). not (beats x y) in
      let both = filter (λ y. not (out xs y || beats x y)) xs in
      let inner = filter (λ y. not (out xs y)) xs in
      ap (λ (l : List X). sorted R (once l))
      (kept-last xs x
      ∙ ap (λ b. both ++ cond (not (b || beats x x)) (x ∷ []) []) is
      ∙ ap (λ b. both ++ cond (not b) (x ∷ []) []) (self-none x)
      ∙ ap (λ (l : List X). l ++ x ∷ [])
      (sym (filter-two nb (λ y. not (out xs y)) (λ y. not (out xs y || beats x y)) xs (each-all (λ y. not-or (out xs y) (beats x y)) xs))))
      ∙ ap (λ (l : List X). sorted R l) (once-last (filter nb inner) x)
      ∙ sorted-last o (filter nt (once (filter nb inner))) x
      ∙ ap (λ (l : List X). placed R l x)
      (ap (λ (l : List X). sorted R (filter nt l)) (once-filter nb inner)
      ∙ sym (filter-sorted o nt (filter nb (once inner)))
      ∙ ap (λ (l : List X). filter nt l) (sym (filter-sorted o nb (once inner)))
      ∙ drop-tied x (top xs) (each-top (λ y. beats y x ≡ false) xs (each-none (λ y. beats y x) xs is)))

  -- ---- what is left tells what was there

  any-filter : (p q : X → Bool) (xs : List X) → AllByRecursion (λ z. q z ≡ false → p z ≡ false) xs → list_any p (filter q xs) ≡ list_any p xs
  any-filter p q [] all = refl
  any-filter p q (x ∷ xs) all = by (q x) refl (any-filter p q xs all.1)
    where
      by : (b : Bool) → q x ≡ b → list_any p (filter q xs) ≡ list_any p xs → list_any p (cond b (x ∷ filter q xs) (filter q xs)) ≡ (p x || list_any p xs)
      by true is rest = ap (λ b. p x || b) rest
      by false is rest = rest ∙ sym (ap (λ b. b || list_any p xs) (all.0 is))

  or-move : (a b c : Bool) → (b || (a || c)) ≡ (a || (b || c))
  or-move true b c = or-true b
  or-move false b c = refl

  any-placed : (p : X → Bool) (xs : List X) (x : X) → list_any p (placed R xs x) ≡ (p x || list_any p xs)
  any-placed p [] x = refl
  any-placed p (y ∷ ys) x =
      elim (is_lt (R x y)) as (λ b. list_any p (cond b (x ∷ y ∷ ys) (y ∷ placed R ys x)) ≡ (p x || (p y || list_any p ys)))
      [ true ↦ refl | false ↦ ap (λ b. p y || b) (any-placed p ys x) ∙ or-move (p x) (p y) (list_any p ys) ]

  weaker-tied : (x y z : X) → beats x y ≡ false → beats z x ≡ false → not (ties x z) ≡ false → beats z y ≡ false
  weaker-tied x y z low high tied = by (beats z y) refl
    where
      not-false : (t : Bool) → not t ≡ false → t ≡ true
      not-false true e = refl
      not-false false e = absurd (true≢false e)

      here : ties x z ≡ true
      here = not-false (ties x z) tied

      by : (b : Bool) → beats z y ≡ b → beats z y ≡ false
      by false is = is
      by true is =
          let more = ltb-true (n y) (n z) (first_so (ltb (n y) (n z)) (ties z y) is) in
          let up = ltb-false (n x) (n z) (sym (and-true (ltb (n x) (n z))) ∙ ap (λ b. ltb (n x) (n z) && b) (sym (tie-turn x z ∙ here)) ∙ high) in
          let tie : ties x y ≡ true = ap is_eq (o.congr x z y (is-equal (R x z) here)) ∙ second_so (ltb (n y) (n z)) (ties z y) is in
          absurd (true≢false
          (sym (ap (λ b. b && ties x y) (lt-ltb (n y) (n x) (omega (arith, more, up))) ∙ tie) ∙ low))

  out-with : (held : List X) (x y : X) → AllByRecursion (λ z. beats z x ≡ false) held → out (with_one R held x) y ≡ (out held y || beats x y)
  out-with held x y all = any-placed (λ z. beats z y) (without R held x) x ∙ by (beats x y) refl
    where
      by : (b : Bool) → beats x y ≡ b → (b || out (without R held x) y) ≡ (out held y || b)
      by true is = sym (or-true (out held y))
      by false is =
          any-filter (λ z. beats z y) (is_apart R x) held (each-weaker (λ z high tied. weaker-tied x y z is high tied) held all)
          ∙ sym (or-none (out held y))

  below : ℕ → Option X → Bool
  below m None = false
  below m (Some y) = ltb m (n y)

  out-found : (held : List X) (x : X) → IsStrictlySortedBy R held → out held x ≡ below (n x) (find (λ y. ties y x) held)
  unfolding below IsStrictlySortedBy
  out-found [] x rise = refl
  out-found (y ∷ ys) x rise = by (ties y x) refl (out-found ys x rise.1)
    where
      off : ties y x ≡ true → (z : X) → R y z ≡ Less → beats z x ≡ false
      off is z less =
          ap (λ (r : Ordering). ltb (n x) (n z) && is_eq r) (turned o x z Less (sym (o.congr y x z (is-equal (R y x) is)) ∙ less))
          ∙ (let e = and-false (ltb (n x) (n z)) false in sym (or-none (ltb (n x) (n z) && false)) ∙ e)

      by : (t : Bool) → ties y x ≡ t → out ys x ≡ below (n x) (find (λ z. ties z x) ys)
          → ((ltb (n x) (n y) && t) || out ys x) ≡ below (n x) (cond t (Some y) (find (λ z. ties z x) ys))
      by true is rest =
          ap (λ b. (ltb (n x) (n y) && true) || b) (none-each (λ z. beats z x) ys (each-weaker (off is) ys rise.0))
          ∙ or-none (ltb (n x) (n y) && true) ∙ and-true (ltb (n x) (n y))
      by false is rest = and-false (ltb (n x) (n y)) (out ys x) ∙ rest

  found-each : (P : X → Type 0) (t : X → Bool) (xs : List X) → AllByRecursion P xs → (e : X) → find t xs ≡ Some e → P e
  found-each P t [] all e is = let s : None ≡ Some e = is in absurd cc
  found-each P t (x ∷ xs) all e is =
      elim (t x) as (λ b. cond b (Some x) (find t xs) ≡ Some e → P e) [
        | true ↦ λ s. subst P (let u : x ≡ e = cc in u) all.0
        | false ↦ λ s. found-each P t xs all.1 e s
      ] is

  -- what stands there in the place of itself
  keep-found : (held : List X) (x old : X) → IsStrictlySortedBy R held → find (λ y. ties y x) held ≡ Some old → with_one R held old ≡ held
  unfolding IsStrictlySortedBy
  keep-found [] x old rise is = let s : None ≡ Some old = is in absurd cc
  keep-found (y ∷ ys) x old rise is = by (ties y x) is (keep-found ys x old rise.1)
    where
      self : with_one R (y ∷ ys) y ≡ y ∷ ys
      self =
          ap (λ (r : Ordering). placed R (cond (not (is_eq r)) (y ∷ without R ys y) (without R ys y)) y) (tied_itself o y)
          ∙ ap (λ (l : List X). placed R l y) (without-above o ys y rise.0) ∙ placed-front o ys y rise.0

      by : (t : Bool) → cond t (Some y) (find (λ z. ties z x) ys) ≡ Some old → (find (λ z. ties z x) ys ≡ Some old → with_one R ys old ≡ ys) → with_one R (y ∷ ys) old ≡ y ∷ ys
      by true s rest = subst (λ (e : X). with_one R (y ∷ ys) e ≡ y ∷ ys) (let u : y ≡ old = cc in u) self
      by false s rest =
          let above = turned o y old Less (found-each (λ z. R y z ≡ Less) (λ z. ties z x) ys rise.0 old s) in
          ap (λ (r : Ordering). placed R (cond (not (is_eq r)) (y ∷ without R ys old) (without R ys old)) old) above
          ∙ ap (λ (r : Ordering). cond (is_lt r) (old ∷ y ∷ without R ys old) (y ∷ placed R (without R ys old) old)) above
          ∙ ap (λ (l : List X). y ∷ l) (rest s)

  -- ---- one after another

  record Left (xs : List X) : Type 0 where
    rising : IsStrictlySortedBy R (top xs)
    same : (x : X) → out xs x ≡ out (top xs) x

  left-none : Left []
  unfolding IsStrictlySortedBy
  left-none = record { rising = tt; same = λ x. refl }

  left-last : (xs : List X) (x : X) → Left xs → Left (xs ++ x ∷ [])
  left-last xs x left = by (out xs x) refl
    where
      by : (b : Bool) → out xs x ≡ b → Left (xs ++ x ∷ [])
      by true is = record {
        rising = subst (λ (l : List X). IsStrictlySortedBy R l) (sym (top-out xs x is)) left.rising;
        same = λ y.
            any-last (λ z. beats z y) xs x ∙ absorb (out xs y) (beats x y) (out-beaten xs x y is) ∙ left.same y
            ∙ ap (λ (l : List X). out l y) (sym (top-out xs x is));
      }
      by false is = record {
        rising = subst (λ (l : List X). IsStrictlySortedBy R l) (sym (top-in xs x is)) (rising-replaced o (top xs) x left.rising);
        same = λ y.
            any-last (λ z. beats z y) xs x ∙ ap (λ b. b || beats x y) (left.same y)
            ∙ sym (out-with (top xs) x y (each-top (λ z. beats z x ≡ false) xs (each-none (λ z. beats z x) xs is)))
            ∙ ap (λ (l : List X). out l y) (sym (top-in xs x is));
      }

  abbrev pub after : Option X → X → X
  after None x = x
  after (Some old) x = cond (ltb (n x) (n old)) old x

  abbrev pub put : List X → X → List X
  put held x = with_one R held (after (find (λ y. ties y x) held) x)

  put-top : (xs : List X) (x : X) → Left xs → put (top xs) x ≡ top (xs ++ x ∷ [])
  unfolding below
  put-top xs x left = by (find (λ y. ties y x) (top xs)) refl
    where
      told : out xs x ≡ below (n x) (find (λ y. ties y x) (top xs))
      told = left.same x ∙ out-found (top xs) x left.rising

      old-by : (old : X) → find (λ y. ties y x) (top xs) ≡ Some old → (b : Bool) → ltb (n x) (n old) ≡ b → with_one R (top xs) (cond b old x) ≡ top (xs ++ x ∷ [])
      old-by old is true less = keep-found (top xs) x old left.rising is ∙ sym (top-out xs x (told ∙ ap (below (n x)) is ∙ less))
      old-by old is false less = sym (top-in xs x (told ∙ ap (below (n x)) is ∙ less))

      by : (found : Option X) → find (λ y. ties y x) (top xs) ≡ found → with_one R (top xs) (after found x) ≡ top (xs ++ x ∷ [])
      by None is = sym (top-in xs x (told ∙ ap (below (n x)) is))
      by (Some old) is = old-by old is (ltb (n x) (n old)) refl

  put-all : (done rest : List X) → Left done → fold put (top done) rest ≡ top (done ++ rest)
  put-all done [] left = sym (ap (λ (l : List X). top l) (append-nil done))
  put-all done (x ∷ rest) left =
      ap (λ (held : List X). fold put held rest) (put-top done x left) ∙ put-all (done ++ x ∷ []) rest (left-last done x left)
      ∙ ap (λ (l : List X). top l) (append_assoc done (x ∷ []) rest)

  pub fold-top : (xs : List X) → fold put [] xs ≡ top xs
  fold-top xs = put-all [] xs left-none
