-- What stands at a place of a list that changed.
use Rattle.std.proofs.Common.{◌≡◌, ◌≢◌, ℕ, zero, suc, List, [], ◌∷◌, ◌++◌, length, set, Some, refl, sym, ◌∙◌, ap, ◌⊎◌, inl, inr}
use Rattle.std.specs.List.{slice_get}
use Rattle.std.proofs.lemmas.Option.{same_Some}
use Rattle.std.proofs.lemmas.Bool.{cases_eq}

-- with one more behind, a place has what it had, or it is the last
pub get-more : {X : Type 0} (xs : List X) (y : X) (i : ℕ)
    → ((i ≢ length xs) × (slice_get (xs ++ y ∷ []) i ≡ slice_get xs i)) ⊎ ((i ≡ length xs) × (slice_get (xs ++ y ∷ []) i ≡ Some y))
get-more [] y zero = inr (refl, refl)
get-more [] y (suc i) = inl (λ is. absurd cc, refl)
get-more (x ∷ xs) y zero = inl (λ is. absurd cc, refl)
get-more (x ∷ xs) y (suc i) = by (get-more xs y i)
  where
    by : ((i ≢ length xs) × (slice_get (xs ++ y ∷ []) i ≡ slice_get xs i)) ⊎ ((i ≡ length xs) × (slice_get (xs ++ y ∷ []) i ≡ Some y))
        → ((suc i ≢ suc (length xs)) × (slice_get (xs ++ y ∷ []) i ≡ slice_get xs i)) ⊎ ((suc i ≡ suc (length xs)) × (slice_get (xs ++ y ∷ []) i ≡ Some y))
    by (inl before) = inl (λ is. before.0 cc, before.1)
    by (inr last) = inr (ap suc last.0, last.1)

pub get-set_same : {X : Type 0} (xs : List X) (n : ℕ) (old new : X) → slice_get xs n ≡ Some old → slice_get (set xs n new) n ≡ Some new
get-set_same [] n old new at = absurd cc
get-set_same (x ∷ xs) zero old new at = refl
get-set_same (x ∷ xs) (suc n) old new at = get-set_same xs n old new at

pub get-set_other : {X : Type 0} (xs : List X) (n i : ℕ) (new : X) → i ≢ n → slice_get (set xs n new) i ≡ slice_get xs i
get-set_other [] n i new other = refl
get-set_other (x ∷ xs) zero zero new other = absurd (other refl)
get-set_other (x ∷ xs) zero (suc i) new other = refl
get-set_other (x ∷ xs) (suc n) zero new other = refl
get-set_other (x ∷ xs) (suc n) (suc i) new other = get-set_other xs n i new (λ e. other (ap suc e))

-- what stands where one was replaced is the new one, or stood there
pub get-set : {X : Type 0} (xs : List X) (n i : ℕ) (old new x : X) → slice_get xs n ≡ Some old → slice_get (set xs n new) i ≡ Some x
    → ((i ≡ n) × (x ≡ new)) ⊎ ((i ≢ n) × (slice_get xs i ≡ Some x))
get-set xs n i old new x old_at at = by (cases_eq i n)
  where
    by : (i ≡ n) ⊎ (i ≡ n → ⊥) → ((i ≡ n) × (x ≡ new)) ⊎ ((i ≢ n) × (slice_get xs i ≡ Some x))
    by (inl same) =
        inl (same, same_Some x new (sym at ∙ ap (slice_get (set xs n new)) same ∙ get-set_same xs n old new old_at))
    by (inr other) = inr (other, sym (get-set_other xs n i new other) ∙ at)
