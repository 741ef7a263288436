-- Rows from one place up to another.
use Rattle.std.proofs.Common.{◌≡◌, ℕ, zero, suc, ◌+◌, ◌-◌, ◌<◌, ◌≤◌, ◌⊎◌, inl, inr, Bool, true, false, List, [], ◌∷◌, ◌++◌, take, drop, reverse, Some, ap, sym, ◌∙◌, arith}
use Rattle.std.proofs.lemmas.List.{reverse-append}
use Rattle.std.proofs.Math.Nat.{eq-or-lt_of_le}
use Rattle.std.specs.List.{slice_get}
use Rattle.ingest_tree.specs.declared.store_row.StoreRow.{StoreRow}
use Rattle.ingest_tree.specs.Iteration.{walk_over}

take-next : {X : Type 0} (n : ℕ) (xs : List X) (i : ℕ) (x : X) → slice_get xs i ≡ Some x → take (suc n) (drop i xs) ≡ x ∷ take n (drop (suc i) xs)
take-next n [] i x at = absurd cc
take-next n (y ∷ xs) zero x at = ap (λ z. z ∷ take n xs) cc
take-next n (y ∷ xs) (suc i) x at = take-next n xs i x at

take-last : {X : Type 0} (n : ℕ) (xs : List X) (i : ℕ) (x : X) → slice_get xs (i + n) ≡ Some x → take (suc n) (drop i xs) ≡ take n (drop i xs) ++ x ∷ []
take-last zero xs i x at = take-next 0 xs i x ((let same : i ≡ i + 0 = omega arith in ap (slice_get xs) same) ∙ at)
take-last (suc n) [] i x at = absurd cc
take-last (suc n) (y ∷ xs) zero x at = ap (λ l. y ∷ l) (take-last n xs 0 x ((let same : 0 + n ≡ n = omega arith in ap (slice_get xs) same) ∙ (let same : suc n ≡ 0 + suc n = omega arith in ap (slice_get (y ∷ xs)) same) ∙ at))
take-last (suc n) (y ∷ xs) (suc i) x at = take-last (suc n) xs i x ((let same : suc (i + suc n) ≡ suc i + suc n = omega arith in ap (slice_get (y ∷ xs)) same) ∙ at)

-- the first of a range, and the last
pub range-first : {X : Type 0} (xs : List X) (first last : ℕ) (x : X) → first < last → slice_get xs first ≡ Some x
    → take (last - first) (drop first xs) ≡ x ∷ take (last - (first + 1)) (drop (first + 1) xs)
range-first xs first last x less at =
    let size : last - first ≡ suc (last - (first + 1)) = omega (arith, less) in
    let next : suc first ≡ first + 1 = omega arith in
    ap (λ n. take n (drop first xs)) size ∙ take-next (last - (first + 1)) xs first x at
    ∙ ap (λ i. x ∷ take (last - (first + 1)) (drop i xs)) next

pub range-last : {X : Type 0} (xs : List X) (first last : ℕ) (x : X) → first < last → slice_get xs (last - 1) ≡ Some x
    → reverse (take (last - first) (drop first xs)) ≡ x ∷ reverse (take (last - 1 - first) (drop first xs))
range-last xs first last x less at =
    let size : last - first ≡ suc (last - 1 - first) = omega (arith, less) in
    let place : first + (last - 1 - first) ≡ last - 1 = omega (arith, less) in
    ap (λ n. reverse (take n (drop first xs))) size
    ∙ ap reverse (take-last (last - 1 - first) xs first x (ap (slice_get xs) place ∙ at))
    ∙ reverse-append (take (last - 1 - first) (drop first xs)) (x ∷ [])

pub range-none : {X : Type 0} (xs : List X) (first last : ℕ) → first ≡ last → take (last - first) (drop first xs) ≡ []
range-none xs first last same =
    let none : last - first ≡ 0 = omega (arith, same) in
    ap (λ n. take n (drop first xs)) none

pub less-from : (a b : ℕ) → a ≤ b → (a ≡ b → ⊥) → a < b
less-from a b most apart = by (eq-or-lt_of_le most)
  where
    by : (a ≡ b) ⊎ (a < b) → a < b
    by (inl same) = absurd (apart same)
    by (inr less) = less

module _ (rows : List StoreRow) (first last : ℕ) (x : StoreRow) (less : first < last) where
  pub walk-first : (back : Bool) → back ≡ false → slice_get rows first ≡ Some x → walk_over back first last rows ≡ x ∷ walk_over back (first + 1) last rows
  walk-first back is at =
      ap (λ b. walk_over b first last rows) is ∙ range-first rows first last x less at ∙ ap (λ b. x ∷ walk_over b (first + 1) last rows) (sym is)

  pub walk-last : (back : Bool) → back ≡ true → slice_get rows (last - 1) ≡ Some x → walk_over back first last rows ≡ x ∷ walk_over back first (last - 1) rows
  walk-last back is at =
      ap (λ b. walk_over b first last rows) is ∙ range-last rows first last x less at ∙ ap (λ b. x ∷ walk_over b first (last - 1) rows) (sym is)
