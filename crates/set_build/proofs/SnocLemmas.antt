-- Lists by their last element.
use Rattle.std.proofs.Common.{◌≡◌, List, [], ◌∷◌, ◌++◌, refl, sym, ap, ◌∙◌}

module _ {X : Type 0} where
  abbrev init_of : List X → List X
  init_of [] = []
  init_of (x ∷ []) = []
  init_of (x ∷ y ∷ xs) = x ∷ init_of (y ∷ xs)

  abbrev last_of : X → List X → X
  last_of d [] = d
  last_of d (x ∷ []) = x
  last_of d (x ∷ y ∷ xs) = last_of d (y ∷ xs)

  init-snoc : (xs : List X) (x : X) → init_of (xs ++ x ∷ []) ≡ xs
  init-snoc [] x = refl
  init-snoc (y ∷ []) x = refl
  init-snoc (y ∷ z ∷ xs) x = ap (λ (l : List X). y ∷ l) (init-snoc (z ∷ xs) x)

  last-snoc : (d : X) (xs : List X) (x : X) → last_of d (xs ++ x ∷ []) ≡ x
  last-snoc d [] x = refl
  last-snoc d (y ∷ []) x = refl
  last-snoc d (y ∷ z ∷ xs) x = last-snoc d (z ∷ xs) x

  pub snoc-parts : (xs ys : List X) (x y : X) → xs ++ x ∷ [] ≡ ys ++ y ∷ [] → (xs ≡ ys) × (x ≡ y)
  snoc-parts xs ys x y e = (
    sym (init-snoc xs x) ∙ ap init_of e ∙ init-snoc ys y,
    sym (last-snoc x xs x) ∙ ap (last_of x) e ∙ last-snoc x ys y,
  )

  pub record Snoc (xs : List X) : Type 0 where
    pub init : List X
    pub last : X
    pub is : xs ≡ init ++ last ∷ []

  pub snoc_of : (x : X) (xs : List X) → Snoc (x ∷ xs)
  snoc_of x [] = record { init = []; last = x; is = refl }
  snoc_of x (y ∷ xs) = let rest = snoc_of y xs in record { init = x ∷ rest.init; last = rest.last; is = ap (λ (l : List X). x ∷ l) rest.is }
