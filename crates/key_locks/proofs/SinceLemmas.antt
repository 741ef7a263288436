-- The first commit since a snapshot.
use Rattle.std.proofs.Common.{◌≡◌, ◌<◌, ◌≤◌, ◌==◌, ◌&&◌, ◌||◌, ℕ, Bool, true, false, cond, nat_lt, Option, Some, None, List, [], ◌∷◌, length, min, drop, zero, suc, refl, ap, sym, subst, ◌⊎◌, inl, inr, arith}
use Rattle.std.specs.Option.{IfSome}
use Rattle.std.proofs.lemmas.Bool.{cases_lt}
use Rattle.hse_rows.specs.declared.write.Write.{Write}
use Rattle.hse_rows.specs.writes.Overlap.{overlaps}
use Rattle.key_locks.specs.Seen.{first_of, IsUpTo}
use Rattle.key_locks.specs.Since.{has_commit, IsFirstSince}
use Rattle.key_locks.specs.Walks.{first_in}
use Rattle.key_locks.proofs.RangeLemmas.{both, and-true}

or-true : (a b : Bool) → (a || b) ≡ true → (a ≡ true) ⊎ (b ≡ true)
or-true true b is = inl refl
or-true false b is = inr is

module _ (write : Write) (snapshot : ℕ) where
  counts : ℕ × Write → Bool
  counts commit = nat_lt snapshot commit.0 && overlaps write commit.1

  after : Option ℕ → ℕ × Write → Option ℕ
  after first commit = cond (nat_lt snapshot commit.0 && overlaps write commit.1) (first_of first commit.0) first

  keep-first : (first : Option ℕ) (m n : ℕ) → IsUpTo first n → IsUpTo (first_of first m) n
  keep-first None m n up = absurd up
  keep-first (Some f) m n up = omega (arith, up)

  keep-cond : (b : Bool) (first : Option ℕ) (m n : ℕ) → IsUpTo first n → IsUpTo (cond b (first_of first m) first) n
  keep-cond true first m n up = keep-first first m n up
  keep-cond false first m n up = up

  pub kept : (first : Option ℕ) (commits : List (ℕ × Write)) (n : ℕ) → IsUpTo first n → IsUpTo (first_in write snapshot first commits) n
  kept first [] n up = up
  kept first (c ∷ cs) n up = kept (cond (nat_lt snapshot c.0 && overlaps write c.1) (first_of first c.0) first) cs n (keep-cond (nat_lt snapshot c.0 && overlaps write c.1) first c.0 n up)

  first-up : (first : Option ℕ) (n : ℕ) → IsUpTo (first_of first n) n
  first-up None n = omega arith
  first-up (Some f) n = omega arith

  pub least-in : (first : Option ℕ) (commits : List (ℕ × Write)) (n : ℕ) → snapshot < n → has_commit write n commits ≡ true → IsUpTo (first_in write snapshot first commits) n
  least-in first [] n less has = absurd cc
  least-in first (c ∷ cs) n less has =
      by (least-in (cond (nat_lt snapshot c.0 && overlaps write c.1) (first_of first c.0) first) cs n less) (or-true ((c.0 == n) && overlaps write c.1) (has_commit write n cs) has)
    where
      by : (has_commit write n cs ≡ true → IsUpTo (first_in write snapshot (cond (nat_lt snapshot c.0 && overlaps write c.1) (first_of first c.0) first) cs) n)
          → (((c.0 == n) && overlaps write c.1) ≡ true) ⊎ (has_commit write n cs ≡ true)
          → IsUpTo (first_in write snapshot (cond (nat_lt snapshot c.0 && overlaps write c.1) (first_of first c.0) first) cs) n
      by rest (inr later) = rest later
      by rest (inl here) =
          let parts = both (c.0 == n) (overlaps write c.1) here in
          let same : c.0 ≡ n = (let is = parts.0 in grind (arith, is)) in
          let late : nat_lt snapshot c.0 ≡ true = grind (arith, same, less) in
          let is : (nat_lt snapshot c.0 && overlaps write c.1) ≡ true = and-true (nat_lt snapshot c.0) (overlaps write c.1) late parts.1 in
          let up : IsUpTo (first_of first c.0) n = subst (λ k. IsUpTo (first_of first c.0) k) same (first-up first c.0) in
          kept (cond (nat_lt snapshot c.0 && overlaps write c.1) (first_of first c.0) first) cs n (subst (λ b. IsUpTo (cond b (first_of first c.0) first) n) (sym is) up)

  abbrev Found : List (ℕ × Write) → ℕ → Type 0
  Found commits n = (snapshot < n) × (has_commit write n commits ≡ true)

  lesser-found : (commits : List (ℕ × Write)) (f m : ℕ) → Found commits f → Found commits m → Found commits (min f m)
  lesser-found commits f m one other = by (cases_lt f m)
    where
      by : (f < m) ⊎ (m ≤ f) → Found commits (min f m)
      by (inl less) = let same : f ≡ min f m = omega (arith, less) in subst (Found commits) same one
      by (inr less) = let same : m ≡ min f m = omega (arith, less) in subst (Found commits) same other

  -- what was found of a part counts in the whole
  pub found-in : (all commits : List (ℕ × Write)) → ((n : ℕ) → has_commit write n commits ≡ true → has_commit write n all ≡ true) → (first : Option ℕ)
      → IfSome first (Found all) → IfSome (first_in write snapshot first commits) (Found all)
  found-in all [] within first found = found
  found-in all (c ∷ cs) within first found =
      found-in all cs (λ n at. within n (later ((c.0 == n) && overlaps write c.1) (has_commit write n cs) at))
      (cond (nat_lt snapshot c.0 && overlaps write c.1) (first_of first c.0) first) (here (nat_lt snapshot c.0 && overlaps write c.1) refl first found)
    where
      later : (a b : Bool) → b ≡ true → (a || b) ≡ true
      later true b at = refl
      later false b at = at

      own : (nat_lt snapshot c.0 && overlaps write c.1) ≡ true → Found all c.0
      own is =
          let parts = both (nat_lt snapshot c.0) (overlaps write c.1) is in
          let less : snapshot < c.0 = (let is = parts.0 in grind (arith, is)) in
          let self : (c.0 == c.0) ≡ true = grind arith in
          (less, within c.0 (ap (λ b. b || has_commit write c.0 cs) (and-true (c.0 == c.0) (overlaps write c.1) self parts.1)))

      here : (b : Bool) → (nat_lt snapshot c.0 && overlaps write c.1) ≡ b → (first : Option ℕ) → IfSome first (Found all) → IfSome (cond b (first_of first c.0) first) (Found all)
      here false apart first found = found
      here true is None found = own is
      here true is (Some f) found = lesser-found all f c.0 found (own is)

  pub first-is : (commits : List (ℕ × Write)) (first : Option ℕ) → first ≡ first_in write snapshot None commits → IsFirstSince write snapshot commits first
  first-is commits first is = record {
    least = λ n less has. subst (λ f. IsUpTo f n) (sym is) (least-in None commits n less has);
    found = subst (λ f. IfSome f (Found commits)) (sym is) (found-in commits commits (λ n has. has) None tt);
  }

pub drop-past : {X : Type 0} (xs : List X) (i : ℕ) → length xs ≤ i → drop i xs ≡ []
drop-past [] zero most = refl
drop-past [] (suc i) most = refl
drop-past (x ∷ xs) zero most = absurd (omega (arith, most))
drop-past (x ∷ xs) (suc i) most = drop-past xs i (omega (arith, most))
