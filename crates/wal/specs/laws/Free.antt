-- The first number that is not taken, and the taken ones before and behind it.
use Rattle.std.proofs.Common.{◌≡◌, ◌≢◌, ◌⊎◌, ℕ, zero, suc, length, ◌+◌, ◌<◌, ◌≤◌, ◌==◌, true, false, List, [], ◌∷◌, refl, sym, subst, arith, inl, inr}
use Rattle.std.specs.Prelude.{nat_lt}
use Rattle.std.specs.List.{AllByRecursion, Contains}
use Rattle.std.specs.List.Sorted.{IsStrictlySortedBy}
use Rattle.std.specs.Ordering.{nat_cmp}
use Rattle.std.specs.declared.cmp.Ordering.TheVariants.{Less}
use Rattle.std.proofs.lemmas.Bool.{cases_lt, cases_eq, lt-ltb, le-ltb, eq-eqb, ne_eqb}
use Rattle.std.proofs.lemmas.Cmp.{ranked}
use Rattle.wal.specs.Numbering.{free_from, taken_from}

-- ---- one taken number

-- it stands behind the next number
pub record Above (next t : ℕ) : Type 0 where
  pub above : next < t
  pub free : (ts : List ℕ) → free_from next (t ∷ ts) ≡ next
  pub taken : (ts : List ℕ) → taken_from next (t ∷ ts) ≡ t ∷ ts

-- it is passed, and the next number is this one
pub record Passed (next t : ℕ) : Type 0 where
  pub from : ℕ
  pub least : next ≤ from
  pub below : t < from
  pub only : (n : ℕ) → next ≤ n → n < from → t ≡ n
  pub free : (ts : List ℕ) → free_from next (t ∷ ts) ≡ free_from from ts
  pub taken : (ts : List ℕ) → taken_from next (t ∷ ts) ≡ taken_from from ts

pub is_above : (next t : ℕ) → next < t → Above next t
is_above next t lt =
    let test : nat_lt next t ≡ true = lt-ltb _ _ lt in
    record { above = lt; free = λ ts. rw test refl; taken = λ ts. rw test refl }

is_same : (next t : ℕ) → t ≤ next → t ≡ next → Passed next t
is_same next t le e =
    let test : nat_lt next t ≡ false = le-ltb _ _ le in
    let same : (t == next) ≡ true = eq-eqb t next e in
    record { from = next + 1; least = omega arith; below = omega (arith, e); only = λ n low high. omega (arith, e, low, high); free = λ ts. rw (test, same) refl; taken = λ ts. rw (test, same) refl }

is_below : (next t : ℕ) → t ≤ next → t ≢ next → Passed next t
is_below next t le apart =
    let test : nat_lt next t ≡ false = le-ltb _ _ le in
    let other : (t == next) ≡ false = ne_eqb t next apart in
    record { from = next; least = omega arith; below = omega (arith, apart); only = λ n low high. absurd (omega (arith, low, high)); free = λ ts. rw (test, other) refl; taken = λ ts. rw (test, other) refl }

pub place : (next t : ℕ) → Above next t ⊎ Passed next t
place next t =
    elim (cases_lt next t) [
      | inl lt ↦ inl (is_above next t lt)
      | inr le ↦ elim (cases_eq t next) [ inl e ↦ inr (is_same next t le e) | inr apart ↦ inr (is_below next t le apart) ]
    ]

-- ---- the first number that is not taken

pub free_least : (next : ℕ) (ts : List ℕ) → next ≤ free_from next ts
free_least next [] = omega arith
free_least next (t ∷ ts) =
    elim (place next t) [
      | inl a ↦ subst (λ (n : ℕ). next ≤ n) (sym (a.free ts)) (omega arith)
      | inr p ↦
          let least : next ≤ p.from = p.least in
          let more : p.from ≤ free_from p.from ts = free_least p.from ts in
          subst (λ (n : ℕ). next ≤ n) (sym (p.free ts)) (omega (arith, least, more))
    ]

pub below_apart : (a b : ℕ) → a < b → a ≢ b
below_apart a b lt = omega arith

above_apart : (a b : ℕ) → b < a → a ≢ b
above_apart a b lt = omega arith

pub less : (a b : ℕ) → nat_cmp a b ≡ Less → a < b
less a b e = ranked a b Less (sym e)

pub is_less : (a b : ℕ) → a < b → nat_cmp a b ≡ Less
is_less a b lt =
    let test : nat_lt a b ≡ true = lt-ltb _ _ lt in
    rw test refl

pub through : (a b c : ℕ) → a < b → b ≤ c → a < c
through a b c p q = omega arith

both_less : (a b c : ℕ) → a < b → b < c → a < c
both_less a b c p q = omega arith

-- no number of these is this one
abbrev pub Lacks : ℕ → List ℕ → Type 0
Lacks n ts = AllByRecursion (λ (t : ℕ). t ≢ n) ts

behind_lack : (n t : ℕ) (ts : List ℕ) → n < t → AllByRecursion (λ y. nat_cmp t y ≡ Less) ts → Lacks n ts
behind_lack n t [] lt above = tt
behind_lack n t (y ∷ ys) lt above = (above_apart y n (both_less n t y lt (less t y above.0)), behind_lack n t ys lt above.1)

-- it is not taken
pub free_lacks : (next : ℕ) (ts : List ℕ) → IsStrictlySortedBy nat_cmp ts → Lacks (free_from next ts) ts
unfolding IsStrictlySortedBy
free_lacks next [] rising = tt
free_lacks next (t ∷ ts) rising =
    elim (place next t) [
      | inl a ↦ subst (λ (n : ℕ). Lacks n (t ∷ ts)) (sym (a.free ts)) (above_apart t next a.above, behind_lack next t ts a.above rising.0)
      | inr p ↦
          subst (λ (n : ℕ). Lacks n (t ∷ ts)) (sym (p.free ts))
          (below_apart t (free_from p.from ts) (through t p.from (free_from p.from ts) p.below (free_least p.from ts)), free_lacks p.from ts rising.1)
    ]

-- nor is a later number that is none of the taken ones behind it
pub later_lacks : (next : ℕ) (ts : List ℕ) (n : ℕ) → free_from next ts < n → Lacks n (taken_from next ts) → Lacks n ts
later_lacks next [] n lt lack = tt
later_lacks next (t ∷ ts) n lt lack =
    elim (place next t) [
      | inl a ↦ subst (Lacks n) (a.taken ts) lack
      | inr p ↦
          let lower : free_from p.from ts < n = subst (λ (m : ℕ). m < n) (p.free ts) lt in
          let first : t < free_from p.from ts = through t p.from (free_from p.from ts) p.below (free_least p.from ts) in
          (below_apart t n (both_less t (free_from p.from ts) n first lower), later_lacks p.from ts n lower (subst (Lacks n) (p.taken ts) lack))
    ]

pub taken_rises : (next : ℕ) (ts : List ℕ) → IsStrictlySortedBy nat_cmp ts → IsStrictlySortedBy nat_cmp (taken_from next ts)
unfolding IsStrictlySortedBy
taken_rises next [] rising = tt
taken_rises next (t ∷ ts) rising =
    elim (place next t) [
      | inl a ↦ subst (IsStrictlySortedBy nat_cmp) (sym (a.taken ts)) rising
      | inr p ↦ subst (IsStrictlySortedBy nat_cmp) (sym (p.taken ts)) (taken_rises p.from ts rising.1)
    ]

-- ---- being one of a list, by recursion

abbrev pub IsIn : ℕ → List ℕ → Type 0
IsIn n [] = ⊥
IsIn n (t ∷ ts) = (t ≡ n) ⊎ IsIn n ts

pub in_from : (n : ℕ) (ts : List ℕ) → Contains ts n → IsIn n ts
in_from n [] h = absurd (omega (arith, h.1))
in_from n (t ∷ ts) (zero, lt, e) = inl e
in_from n (t ∷ ts) (suc k, lt, e) = inr (in_from n ts (k, omega (arith, lt), e))

pub in_to : (n : ℕ) (ts : List ℕ) → IsIn n ts → Contains ts n
in_to n [] h = absurd h
in_to n (t ∷ ts) (inl e) = (0, omega arith, e)
in_to n (t ∷ ts) (inr h) =
    let c = in_to n ts h in
    let lt : c.0 < length ts = c.1 in
    (suc c.0, omega (arith, lt), c.2)

pub not_in : (n : ℕ) (ts : List ℕ) → Lacks n ts → IsIn n ts → ⊥
not_in n [] lack h = h
not_in n (t ∷ ts) lack (inl e) = lack.0 e
not_in n (t ∷ ts) lack (inr h) = not_in n ts lack.1 h

-- ---- the numbers below the first free one

-- they are taken
pub free_fills : (next : ℕ) (ts : List ℕ) (n : ℕ) → next ≤ n → n < free_from next ts → IsIn n ts
free_fills next [] n low high = absurd (omega (arith, low, high))
free_fills next (t ∷ ts) n low high =
    elim (place next t) [
      | inl a ↦ let under : n < next = subst (λ (m : ℕ). n < m) (a.free ts) high in absurd (omega (arith, low, under))
      | inr p ↦ elim (cases_lt n p.from) [
        | inl lt ↦ inl (p.only n low lt)
        | inr le ↦ inr (free_fills p.from ts n le (subst (λ (m : ℕ). n < m) (p.free ts) high))
      ]
    ]

pub behind_it : (n t : ℕ) (ts : List ℕ) → t < n → IsIn n (t ∷ ts) → IsIn n ts
behind_it n t ts lt (inl e) = absurd (omega (arith, lt, e))
behind_it n t ts lt (inr h) = h

-- a taken number behind the first free one is still among the taken ones
pub still_taken : (next : ℕ) (ts : List ℕ) (n : ℕ) → free_from next ts < n → IsIn n ts → IsIn n (taken_from next ts)
still_taken next [] n lt h = h
still_taken next (t ∷ ts) n lt h =
    elim (place next t) [
      | inl a ↦ subst (IsIn n) (sym (a.taken ts)) h
      | inr p ↦
          let lower : free_from p.from ts < n = subst (λ (m : ℕ). m < n) (p.free ts) lt in
          let first : t < free_from p.from ts = through t p.from (free_from p.from ts) p.below (free_least p.from ts) in
          subst (IsIn n) (sym (p.taken ts)) (still_taken p.from ts n lower (behind_it n t ts (omega (arith, first, lower)) h))
    ]

-- one that is not taken is none of those behind
pub still_lacks : (next : ℕ) (ts : List ℕ) (n : ℕ) → Lacks n ts → Lacks n (taken_from next ts)
still_lacks next [] n lack = tt
still_lacks next (t ∷ ts) n lack =
    elim (place next t) [
      | inl a ↦ subst (Lacks n) (sym (a.taken ts)) lack
      | inr p ↦ subst (Lacks n) (sym (p.taken ts)) (still_lacks p.from ts n lack.1)
    ]

-- a taken number behind the first free one is a taken number
pub part_of_taken : (next : ℕ) (ts : List ℕ) (n : ℕ) → IsIn n (taken_from next ts) → IsIn n ts
part_of_taken next [] n h = h
part_of_taken next (t ∷ ts) n h =
    elim (place next t) [
      | inl a ↦ subst (IsIn n) (a.taken ts) h
      | inr p ↦ inr (part_of_taken p.from ts n (subst (IsIn n) (p.taken ts) h))
    ]
