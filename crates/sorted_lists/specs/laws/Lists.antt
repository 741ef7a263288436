-- Laws of what holds of each element of a list.
use Rattle.std.proofs.Common.{◌≡◌, ℕ, zero, suc, ◌<◌, Bool, true, false, cond, List, [], ◌∷◌, ◌++◌, length, get_or, refl, ap, ◌∙◌, arith}
use Rattle.std.specs.List.{AllByRecursion, filter}

module _ {X : Type 0} where
  pub each-weaker : {P Q : X → Type 0} → ((x : X) → P x → Q x) → (xs : List X) → AllByRecursion P xs → AllByRecursion Q xs
  each-weaker f [] all = tt
  each-weaker f (x ∷ xs) all = (f x all.0, each-weaker f xs all.1)

  pub each-filter : (P : X → Type 0) (p : X → Bool) (xs : List X) → AllByRecursion P xs → AllByRecursion P (filter p xs)
  each-filter P p [] all = tt
  each-filter P p (x ∷ xs) all =
      elim (p x) as (λ b. AllByRecursion P (cond b (x ∷ filter p xs) (filter p xs)))
      [ true ↦ (all.0, each-filter P p xs all.1) | false ↦ each-filter P p xs all.1 ]

  pub each-last : (P : X → Type 0) (xs : List X) (x : X) → AllByRecursion P xs → P x → AllByRecursion P (xs ++ x ∷ [])
  each-last P [] x all last = (last, tt)
  each-last P (y ∷ ys) x all last = (all.0, each-last P ys x all.1 last)

  -- an element at an index
  pub each-at : (P : X → Type 0) (xs : List X) (i : ℕ) (d : X) → AllByRecursion P xs → i < length xs → P (get_or xs i d)
  each-at P [] i d all in' = absurd (omega arith)
  each-at P (x ∷ xs) zero d all in' = all.0
  each-at P (x ∷ xs) (suc i) d all in' = each-at P xs i d all.1 (omega arith)

  -- a test that each passes keeps all
  pub filter-all : (p : X → Bool) (xs : List X) → AllByRecursion (λ x. p x ≡ true) xs → filter p xs ≡ xs
  filter-all p [] all = refl
  filter-all p (x ∷ xs) all =
      ap (λ b. cond b (x ∷ filter p xs) (filter p xs)) all.0 ∙ ap (λ l. x ∷ l) (filter-all p xs all.1)

  pub filter-alike : (p q : X → Bool) → ((x : X) → p x ≡ q x) → (xs : List X) → filter p xs ≡ filter q xs
  filter-alike p q alike [] = refl
  filter-alike p q alike (x ∷ xs) = λ i. cond (alike x i) (x ∷ filter-alike p q alike xs i) (filter-alike p q alike xs i)

  pub each-append : (P : X → Type 0) (xs ys : List X) → AllByRecursion P xs → AllByRecursion P ys → AllByRecursion P (xs ++ ys)
  each-append P [] ys one two = two
  each-append P (x ∷ xs) ys one two = (one.0, each-append P xs ys one.1 two)

  pub each-front : (P : X → Type 0) (xs ys : List X) → AllByRecursion P (xs ++ ys) → AllByRecursion P xs
  each-front P [] ys all = tt
  each-front P (x ∷ xs) ys all = (all.0, each-front P xs ys all.1)

  pub each-rest : (P : X → Type 0) (xs ys : List X) → AllByRecursion P (xs ++ ys) → AllByRecursion P ys
  each-rest P [] ys all = all
  each-rest P (x ∷ xs) ys all = each-rest P xs ys all.1

  -- a test that none passes keeps nothing
  pub filter-none : (p : X → Bool) (xs : List X) → AllByRecursion (λ x. p x ≡ false) xs → filter p xs ≡ []
  filter-none p [] none = refl
  filter-none p (x ∷ xs) none = ap (λ b. cond b (x ∷ filter p xs) (filter p xs)) none.0 ∙ filter-none p xs none.1
