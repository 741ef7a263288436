-- Names that begin with another stand together.
use Rattle.std.proofs.Common.{◌≡◌, ◌<◌, ◌≤◌, ℕ, Bool, true, false, ◌==◌, ◌&&◌, List, [], ◌∷◌, refl, ap, sym, ◌∙◌, ◌⊎◌, inl, inr, arith}
use Rattle.std.specs.declared.cmp.Ordering.{Ordering}
use Rattle.std.specs.declared.cmp.Ordering.TheVariants.{Less, Equal, Greater}
use Rattle.std.specs.Ordering.{nat_cmp, bool_cmp, is_gt, ordering_then}
use Rattle.std.proofs.lemmas.Map.Lookups.{exact_unsigned}
use Rattle.std.proofs.lemmas.Bool.{cases_lt}
use Rattle.std.proofs.Common.{⊎_elim}
use Rattle.std.specs.Cmp.{nat_cmp_is}
use Rattle.std.specs.Cmp.Lexicographic.{slice_cmp}
use Rattle.hse_rows.specs.writes.Change.{covers}
use Rattle.key_locks.specs.declared.name.Name.{Name}
use Rattle.key_locks.specs.Names.{name_cmp}
use Rattle.key_locks.specs.Seen.{begins_with}

pub both : (a b : Bool) → (a && b) ≡ true → (a ≡ true) × (b ≡ true)
both true true is = (refl, refl)
both true false is = absurd cc
both false b is = absurd cc

pub and-true : (a b : Bool) → a ≡ true → b ≡ true → (a && b) ≡ true
and-true true true one other = refl
and-true true false one other = absurd cc
and-true false b one other = absurd cc

then-step : (o r : Ordering) → is_gt (ordering_then o r) ≡ false → (o ≡ Less) ⊎ ((o ≡ Equal) × (is_gt r ≡ false))
then-step Less r is = inl refl
then-step Equal r is = inr (refl, is)
then-step Greater r is = absurd cc

greater-is : Greater ≡ Less → ⊥
greater-is e = cc

equal-is : Equal ≡ Less → ⊥
equal-is e = cc

pub lt_from_cmp : (a b : ℕ) → nat_cmp a b ≡ Less → a < b
lt_from_cmp a b less = by (cases_lt a b) (cases_lt b a)
  where
    by : (a < b) ⊎ (b ≤ a) → (b < a) ⊎ (a ≤ b) → a < b
    by (inl is) other = is
    by (inr most) (inl more) = absurd (greater-is (nat_cmp_is a b Greater more ∙ less))
    by (inr most) (inr least) = absurd (equal-is (nat_cmp_is a b Equal (omega (arith, most, least)) ∙ less))

-- one number is below another, or the rest decides
step : (a b : ℕ) (r : Ordering) → is_gt (ordering_then (nat_cmp a b) r) ≡ false → (a < b) ⊎ ((a ≡ b) × (is_gt r ≡ false))
step a b r is = by (then-step (nat_cmp a b) r is)
  where
    by : (nat_cmp a b ≡ Less) ⊎ ((nat_cmp a b ≡ Equal) × (is_gt r ≡ false)) → (a < b) ⊎ ((a ≡ b) × (is_gt r ≡ false))
    by (inl less) = inl (lt_from_cmp a b less)
    by (inr same) = inr (exact_unsigned a b same.0, same.1)

-- between a text and one that begins with it
bytes-between : (p x y : List ℕ) → is_gt (slice_cmp nat_cmp p x) ≡ false → is_gt (slice_cmp nat_cmp x y) ≡ false → covers p y ≡ true → covers p x ≡ true
bytes-between [] x y low high is = refl
bytes-between (a ∷ p) [] y low high is = absurd cc
bytes-between (a ∷ p) (b ∷ x) [] low high is = absurd cc
bytes-between (a ∷ p) (b ∷ x) (c ∷ y) low high is =
    by (bytes-between p x y) (both (a == c) (covers p y) is) (step a b (slice_cmp nat_cmp p x) low) (step b c (slice_cmp nat_cmp x y) high)
  where
    by : (is_gt (slice_cmp nat_cmp p x) ≡ false → is_gt (slice_cmp nat_cmp x y) ≡ false → covers p y ≡ true → covers p x ≡ true)
        → ((a == c) ≡ true) × (covers p y ≡ true) → (a < b) ⊎ ((a ≡ b) × (is_gt (slice_cmp nat_cmp p x) ≡ false))
        → (b < c) ⊎ ((b ≡ c) × (is_gt (slice_cmp nat_cmp x y) ≡ false)) → covers (a ∷ p) (b ∷ x) ≡ true
    by rest is (inl less) (inl high) = let same : a ≡ c = grind (arith, is.0) in absurd (omega (arith, less, high, same))
    by rest is (inl less) (inr high) = let same : a ≡ c = grind (arith, is.0) in let last = high.0 in absurd (omega (arith, less, last, same))
    by rest is (inr low) (inl high) = let same : a ≡ c = grind (arith, is.0) in let first = low.0 in absurd (omega (arith, first, high, same))
    by rest is (inr low) (inr high) = and-true (a == b) (covers p x) (grind (arith, low.0)) (rest low.1 high.1 is.1)

pub name-between : (s x y : Name) → is_gt (name_cmp s x) ≡ false → is_gt (name_cmp x y) ≡ false → begins_with s y ≡ true → begins_with s x ≡ true
name-between s x y low high is =
    by (both (s.store == y.store) (covers s.bytes y.bytes) is) (step s.store x.store _ low) (step x.store y.store _ high)
  where
    first-bytes : (o r : Ordering) → is_gt (ordering_then o r) ≡ false → is_gt o ≡ false
    first-bytes Less r is = refl
    first-bytes Equal r is = refl
    first-bytes Greater r is = absurd cc

    by : ((s.store == y.store) ≡ true) × (covers s.bytes y.bytes ≡ true)
        → (s.store < x.store) ⊎ ((s.store ≡ x.store) × (is_gt (ordering_then (slice_cmp nat_cmp s.bytes x.bytes) (bool_cmp s.is_key x.is_key)) ≡ false))
        → (x.store < y.store) ⊎ ((x.store ≡ y.store) × (is_gt (ordering_then (slice_cmp nat_cmp x.bytes y.bytes) (bool_cmp x.is_key y.is_key)) ≡ false))
        → begins_with s x ≡ true
    by is (inl less) (inl high) = let same : s.store ≡ y.store = grind (arith, is.0) in absurd (omega (arith, less, high, same))
    by is (inl less) (inr high) = let same : s.store ≡ y.store = grind (arith, is.0) in let last = high.0 in absurd (omega (arith, less, last, same))
    by is (inr low) (inl high) = let same : s.store ≡ y.store = grind (arith, is.0) in let first = low.0 in absurd (omega (arith, first, high, same))
    by is (inr low) (inr high) =
        and-true (s.store == x.store) (covers s.bytes x.bytes) (grind (arith, low.0))
        (bytes-between s.bytes x.bytes y.bytes (first-bytes _ _ low.1) (first-bytes _ _ high.1) is.1)

covers-least : (p x : List ℕ) → covers p x ≡ true → (slice_cmp nat_cmp p x ≡ Less) ⊎ (slice_cmp nat_cmp p x ≡ Equal)
covers-least [] [] is = inr refl
covers-least [] (b ∷ x) is = inl refl
covers-least (a ∷ p) [] is = absurd cc
covers-least (a ∷ p) (b ∷ x) is = by (both (a == b) (covers p x) is) (covers-least p x)
  where
    by : ((a == b) ≡ true) × (covers p x ≡ true) → (covers p x ≡ true → (slice_cmp nat_cmp p x ≡ Less) ⊎ (slice_cmp nat_cmp p x ≡ Equal))
        → (slice_cmp nat_cmp (a ∷ p) (b ∷ x) ≡ Less) ⊎ (slice_cmp nat_cmp (a ∷ p) (b ∷ x) ≡ Equal)
    by is rest =
        let same : Equal ≡ nat_cmp a b = nat_cmp_is a b Equal (grind (arith, is.0)) in
        let next : slice_cmp nat_cmp (a ∷ p) (b ∷ x) ≡ slice_cmp nat_cmp p x = ap (λ o. ordering_then o (slice_cmp nat_cmp p x)) (sym same) in
        ⊎_elim (λ e. inl (next ∙ e)) (λ e. inr (next ∙ e)) (rest is.1)

-- a prefix is not above what begins with it
pub least-below : (s x : Name) → s.is_key ≡ false → begins_with s x ≡ true → is_gt (name_cmp s x) ≡ false
least-below s x prefix is = by (both (s.store == x.store) (covers s.bytes x.bytes) is)
  where
    kind : (k : Bool) → is_gt (bool_cmp false k) ≡ false
    kind true = refl
    kind false = refl

    rest : (slice_cmp nat_cmp s.bytes x.bytes ≡ Less) ⊎ (slice_cmp nat_cmp s.bytes x.bytes ≡ Equal)
        → is_gt (ordering_then (slice_cmp nat_cmp s.bytes x.bytes) (bool_cmp s.is_key x.is_key)) ≡ false
    rest (inl less) = ap (λ o. is_gt (ordering_then o (bool_cmp s.is_key x.is_key))) less
    rest (inr same) = ap (λ o. is_gt (ordering_then o (bool_cmp s.is_key x.is_key))) same ∙ ap (λ k. is_gt (bool_cmp k x.is_key)) prefix ∙ kind x.is_key

    by : ((s.store == x.store) ≡ true) × (covers s.bytes x.bytes ≡ true) → is_gt (name_cmp s x) ≡ false
    by is =
        let same : Equal ≡ nat_cmp s.store x.store = nat_cmp_is s.store x.store Equal (grind (arith, is.0)) in
        ap (λ o. is_gt (ordering_then o (ordering_then (slice_cmp nat_cmp s.bytes x.bytes) (bool_cmp s.is_key x.is_key)))) (sym same)
        ∙ rest (covers-least s.bytes x.bytes is.1)
