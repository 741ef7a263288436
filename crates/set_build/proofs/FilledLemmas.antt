-- Greedy packing: one more goes into the last block or into a new one.
use Rattle.std.proofs.Common.{◌≡◌, ℕ, zero, suc, ◌+◌, ◌<◌, ◌≤◌, nat_le, Bool, true, false, cond, List, [], ◌∷◌, ◌++◌, length, map, take, drop, get_or, refl, sym, ap, ◌∙◌, append_assoc, arith}
use Rattle.std.specs.List.{flat_map, sum_by}
use Rattle.std.proofs.lemmas.Bool.{le-leb, lt-leb}
use Rattle.std.proofs.lemmas.List.{append-nil, map-append}
use Rattle.std.proofs.lemmas.List.Sums.{sum_by-append, sum_by-cons}
use Rattle.hse_rows.specs.rows.Packing.{filled, filled_from}
use Rattle.set_build.specs.Builders.{with_last}

module _ {X : Type 0} (size : X → ℕ) (room : ℕ) where
  -- whether one more goes behind those of a block
  abbrev pub goes : X → List X → Bool
  goes x block = nat_le (sum_by size block + size x) room

  abbrev pub grown : X → List X → List X
  grown x block = block ++ x ∷ []

  -- the blocks with one more
  abbrev pub with_one : List (List X) → X → List (List X)
  with_one blocks x = with_last (goes x) (grown x) (x ∷ []) blocks

  sum-grown : (block : List X) (x : X) → sum_by size (block ++ x ∷ []) ≡ sum_by size block + size x
  sum-grown block x = omega (arith, sum_by-append size block (x ∷ []), sum_by-cons size x [])

  -- there is always a block
  some_from : (block : List X) (used : ℕ) (xs : List X)
      → (first : List X) × (rest : List (List X)) × (filled_from size room block used xs ≡ first ∷ rest)
  some_from block used [] = (block, [], refl)
  some_from block used (x ∷ xs) =
      elim (nat_le (used + size x) room) as (λ b. (first : List X) × (rest : List (List X))
      × (cond b (filled_from size room (block ++ x ∷ []) (used + size x) xs) (block ∷ filled_from size room (x ∷ []) (size x) xs) ≡ first ∷ rest)) [
        | true ↦ some_from (block ++ x ∷ []) (used + size x) xs
        | false ↦ (block, filled_from size room (x ∷ []) (size x) xs, refl)
      ]

  one-behind : (block : List X) (blocks : List (List X)) (first : List X) (rest : List (List X)) (x : X) → blocks ≡ first ∷ rest
      → with_one (block ∷ blocks) x ≡ block ∷ with_one blocks x
  one-behind block blocks first rest x e = rw e refl

  from-more : (block : List X) (used : ℕ) (xs : List X) (x : X) → used ≡ sum_by size block
      → filled_from size room block used (xs ++ x ∷ []) ≡ with_one (filled_from size room block used xs) x
  from-more block used [] x e = rw e refl
  from-more block used (y ∷ xs) x e =
      elim (nat_le (used + size y) room) as (λ b.
      cond b (filled_from size room (block ++ y ∷ []) (used + size y) (xs ++ x ∷ [])) (block ∷ filled_from size room (y ∷ []) (size y) (xs ++ x ∷ []))
      ≡ with_one (cond b (filled_from size room (block ++ y ∷ []) (used + size y) xs) (block ∷ filled_from size room (y ∷ []) (size y) xs)) x) [
        | true ↦ from-more (block ++ y ∷ []) (used + size y) xs x (omega (arith, e, sum-grown block y))
        | false ↦
            let some = some_from (y ∷ []) (size y) xs in
            ap (λ (l : List (List X)). block ∷ l) (from-more (y ∷ []) (size y) xs x (omega (arith, sum_by-cons size y [])))
            ∙ sym (one-behind block (filled_from size room (y ∷ []) (size y) xs) some.0 some.1 x some.2)
      ]

  pub filled-more : (xs : List X) (x : X) → filled size room (xs ++ x ∷ []) ≡ with_one (filled size room xs) x
  filled-more [] x = refl
  filled-more (y ∷ xs) x = from-more (y ∷ []) (size y) xs x (omega (arith, sum_by-cons size y []))

  -- what is in the blocks is what was to be packed
  flat-from : (block : List X) (used : ℕ) (xs : List X) → flat_map (λ (b : List X). b) (filled_from size room block used xs) ≡ block ++ xs
  flat-from block used [] = refl
  flat-from block used (x ∷ xs) =
      elim (nat_le (used + size x) room) as (λ b.
      flat_map (λ (l : List X). l) (cond b (filled_from size room (block ++ x ∷ []) (used + size x) xs) (block ∷ filled_from size room (x ∷ []) (size x) xs)) ≡ block ++ x ∷ xs) [
        | true ↦ flat-from (block ++ x ∷ []) (used + size x) xs ∙ append_assoc block (x ∷ []) xs
        | false ↦ ap (λ (l : List X). block ++ l) (flat-from (x ∷ []) (size x) xs)
      ]

  pub filled-flat : (xs : List X) → flat_map (λ (b : List X). b) (filled size room xs) ≡ xs
  filled-flat [] = refl
  filled-flat (x ∷ xs) = flat-from (x ∷ []) (size x) xs

  -- the first block, where so many are all that fit
  from-front : (block : List X) (used : ℕ) (xs : List X) (n : ℕ) (d : X) → n ≤ length xs → used + sum_by size (take n xs) ≤ room
      → (n < length xs → room < used + sum_by size (take n xs) + size (get_or xs n d))
      → filled_from size room block used xs ≡ (block ++ take n xs) ∷ filled size room (drop n xs)
  from-front block used [] zero d within fits full = ap (λ (l : List X). l ∷ []) (sym (append-nil block))
  from-front block used [] (suc n) d within fits full = absurd (omega (arith, within))
  from-front block used (x ∷ xs) zero d within fits full =
      let stays : nat_le (used + size x) room ≡ false = lt-leb _ _ (omega (arith, full (omega arith))) in
      rw (stays, append-nil block) refl
  from-front block used (x ∷ xs) (suc n) d within fits full =
      let sum : sum_by size (x ∷ take n xs) ≡ size x + sum_by size (take n xs) = sum_by-cons size x (take n xs) in
      let goes : nat_le (used + size x) room ≡ true = le-leb _ _ (omega (arith, fits, sum)) in
      rw goes (
      from-front (block ++ x ∷ []) (used + size x) xs n d (omega (arith, within)) (omega (arith, fits, sum))
      (λ more. let over = full (omega (arith, more)) in omega (arith, over, sum))
      ∙ ap (λ (l : List X). l ∷ filled size room (drop n xs)) (append_assoc block (x ∷ []) (take n xs))
      )

  pub filled-front : (xs : List X) (n : ℕ) (d : X) → 0 < n → n ≤ length xs → sum_by size (take n xs) ≤ room
      → (n < length xs → room < sum_by size (take n xs) + size (get_or xs n d))
      → filled size room xs ≡ take n xs ∷ filled size room (drop n xs)
  filled-front [] n d some within fits full = absurd (omega (arith, some, within))
  filled-front (x ∷ xs) zero d some within fits full = absurd (omega (arith, some))
  filled-front (x ∷ xs) (suc n) d some within fits full =
      let sum : sum_by size (x ∷ take n xs) ≡ size x + sum_by size (take n xs) = sum_by-cons size x (take n xs) in
      from-front (x ∷ []) (size x) xs n d (omega (arith, within)) (omega (arith, fits, sum))
      (λ more. let over = full (omega (arith, more)) in omega (arith, over, sum))

-- packing by a size that a map keeps
module _ {X Y : Type 0} (f : X → Y) (size : Y → ℕ) (room : ℕ) where
  from-map : (block : List X) (used : ℕ) (xs : List X)
      → map (map f) (filled_from (λ (x : X). size (f x)) room block used xs) ≡ filled_from size room (map f block) used (map f xs)
  from-map block used [] = refl
  from-map block used (x ∷ xs) =
      elim (nat_le (used + size (f x)) room) as (λ b.
      map (map f) (cond b (filled_from (λ (x : X). size (f x)) room (block ++ x ∷ []) (used + size (f x)) xs) (block ∷ filled_from (λ (x : X). size (f x)) room (x ∷ []) (size (f x)) xs))
      ≡ cond b (filled_from size room (map f block ++ f x ∷ []) (used + size (f x)) (map f xs)) (map f block ∷ filled_from size room (f x ∷ []) (size (f x)) (map f xs))) [
        | true ↦
            from-map (block ++ x ∷ []) (used + size (f x)) xs
            ∙ ap (λ (l : List Y). filled_from size room l (used + size (f x)) (map f xs)) (map-append f block (x ∷ []))
        | false ↦ ap (λ (l : List (List Y)). map f block ∷ l) (from-map (x ∷ []) (size (f x)) xs)
      ]

  pub filled-map : (xs : List X) → map (map f) (filled (λ (x : X). size (f x)) room xs) ≡ filled size room (map f xs)
  filled-map [] = refl
  filled-map (x ∷ xs) = from-map (x ∷ []) (size (f x)) xs
