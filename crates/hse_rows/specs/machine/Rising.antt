-- Things whose numbers rise from one number on to below another, with its lemmas.
use Rattle.std.specs.List.{AllByRecursion, filter}
use Rattle.std.proofs.Common.{ℕ, ◌+◌, ◌<◌, ◌≤◌, Bool, true, false, cond, List, [], ◌∷◌, ◌++◌, arith}

abbrev pub Rise : {A : Type 0} → (A → ℕ) → ℕ → ℕ → List A → Type 0
Rise number_of low high [] = low ≤ high
Rise number_of low high (x ∷ xs) = (low ≤ number_of x) × Rise number_of (number_of x + 1) high xs

module _ {A : Type 0} (number_of : A → ℕ) where
  pub rise-room : (low high : ℕ) (xs : List A) → Rise number_of low high xs → low ≤ high
  rise-room low high [] rises = rises
  rise-room low high (x ∷ xs) rises =
      let here : low ≤ number_of x = rises.0 in
      let rest : number_of x + 1 ≤ high = rise-room (number_of x + 1) high xs rises.1 in
      omega (arith, here, rest)

  pub rise-further : (low high higher : ℕ) (xs : List A) → high ≤ higher → Rise number_of low high xs → Rise number_of low higher xs
  rise-further low high higher [] more rises =
      let here : low ≤ high = rises in
      omega (arith, here, more)
  rise-further low high higher (x ∷ xs) more rises = (rises.0, rise-further (number_of x + 1) high higher xs more rises.1)

  pub rise-before : (lower low high : ℕ) (xs : List A) → lower ≤ low → Rise number_of low high xs → Rise number_of lower high xs
  rise-before lower low high [] less rises =
      let here : low ≤ high = rises in
      omega (arith, here, less)
  rise-before lower low high (x ∷ xs) less rises =
      let here : low ≤ number_of x = rises.0 in
      let there : lower ≤ number_of x = omega (arith, here, less) in
      (there, rises.1)

  -- one more at the end
  pub rise-push : (low high higher : ℕ) (xs : List A) (x : A) → Rise number_of low high xs → high ≤ number_of x → number_of x < higher
      → Rise number_of low higher (xs ++ x ∷ [])
  rise-push low high higher [] x rises more less =
      let here : low ≤ high = rises in
      let there : low ≤ number_of x = omega (arith, here, more) in
      let last : number_of x + 1 ≤ higher = omega (arith, less) in
      (there, last)
  rise-push low high higher (first ∷ xs) x rises more less =
      (rises.0, rise-push (number_of first + 1) high higher xs x rises.1 more less)

  -- some of them
  pub rise-filter : (p : A → Bool) (low high : ℕ) (xs : List A) → Rise number_of low high xs → Rise number_of low high (filter p xs)
  rise-filter p low high [] rises = rises
  rise-filter p low high (x ∷ xs) rises = by (p x) (rise-filter p (number_of x + 1) high xs rises.1)
    where
      by : (b : Bool) → Rise number_of (number_of x + 1) high (filter p xs) → Rise number_of low high (cond b (x ∷ filter p xs) (filter p xs))
      by true rest = (rises.0, rest)
      by false rest =
          let here : low ≤ number_of x = rises.0 in
          let less : low ≤ number_of x + 1 = omega (arith, here) in
          rise-before low (number_of x + 1) high (filter p xs) less rest

  -- each is from the one number on, and below the other
  pub rise-from : (low high : ℕ) (xs : List A) → Rise number_of low high xs → AllByRecursion (λ x. low ≤ number_of x) xs
  rise-from low high [] rises = tt
  rise-from low high (x ∷ xs) rises =
      let here : low ≤ number_of x = rises.0 in
      let less : low ≤ number_of x + 1 = omega (arith, here) in
      (here, rise-from low high xs (rise-before low (number_of x + 1) high xs less rises.1))

  pub rise-below : (low high : ℕ) (xs : List A) → Rise number_of low high xs → AllByRecursion (λ x. number_of x < high) xs
  rise-below low high [] rises = tt
  rise-below low high (x ∷ xs) rises =
      let room : number_of x + 1 ≤ high = rise-room (number_of x + 1) high xs rises.1 in
      let here : number_of x < high = omega (arith, room) in
      (here, rise-below (number_of x + 1) high xs rises.1)
