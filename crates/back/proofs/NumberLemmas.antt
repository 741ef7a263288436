-- The first number that is free, and the taken ones behind it, from a later number on and with one number more.
use Rattle.std.proofs.Common.{◌≡◌, ℕ, ◌+◌, ◌<◌, ◌≤◌, true, false, List, [], ◌∷◌, ◌++◌, refl, sym, ◌∙◌, ap, subst, arith, inl, inr}
use Rattle.std.specs.Prelude.{nat_lt, ◌==◌}
use Rattle.std.proofs.lemmas.Bool.{le-ltb, ne_eqb, eq-eqb}
use Rattle.hse_fields.specs.LogReading.{Follow}
use Rattle.hse_fields.specs.LogText.{Entry}
use Rattle.wal.specs.Numbering.{Numbers, free_from, taken_from, numbering}
use Rattle.wal.specs.declared.live.StorePrefix.{StorePrefix}
use Rattle.wal.specs.laws.Free.{free_least, place, through}
use Rattle.wal.specs.laws.Numbering.{came, number_is}
use Rattle.wal.specs.laws.Taken.{follow_grows}

-- from these two lists the same number comes first, and the same taken ones behind it
pub record Alike (k : ℕ) (ts us : List ℕ) : Type 0 where
  pub free : free_from k ts ≡ free_from k us
  pub taken : taken_from k ts ≡ taken_from k us

alike_by : (k : ℕ) (ts us : List ℕ) → ts ≡ us → Alike k ts us
alike_by k ts us is = record { free = ap (free_from k) is; taken = ap (taken_from k) is }

joined : (k : ℕ) (ts us vs : List ℕ) → Alike k ts us → Alike k us vs → Alike k ts vs
joined k ts us vs first second = record { free = first.free ∙ second.free; taken = first.taken ∙ second.taken }

-- a lower number is not looked at
passed : (k t : ℕ) (ts : List ℕ) → t < k → Alike k ts (t ∷ ts)
passed k t ts lt =
    let test : nat_lt k t ≡ false = le-ltb _ _ (omega (arith, lt)) in
    let other : (t == k) ≡ false = ne_eqb t k (omega (arith, lt)) in
    record { free = rw (test, other) refl; taken = rw (test, other) refl }

-- behind the first free number only the taken ones behind it count
pub behind_free : (next k : ℕ) (ts : List ℕ) → free_from next ts < k → Alike k (taken_from next ts) ts
behind_free next k [] lt = record { free = refl; taken = refl }
behind_free next k (t ∷ ts) lt =
    elim (place next t) [
      | inl a ↦ alike_by k (taken_from next (t ∷ ts)) (t ∷ ts) (a.taken ts)
      | inr p ↦
          let lower : free_from p.from ts < k = subst (λ (m : ℕ). m < k) (p.free ts) lt in
          let below : t < k = through t p.from k p.below (omega (arith, lower, free_least p.from ts)) in
          joined k (taken_from next (t ∷ ts)) ts (t ∷ ts)
          (joined k (taken_from next (t ∷ ts)) (taken_from p.from ts) ts
          (alike_by k (taken_from next (t ∷ ts)) (taken_from p.from ts) (p.taken ts))
          (behind_free p.from k ts lower))
          (passed k t ts below)
    ]

-- so entries that follow one another change nothing of what is known behind them
pub behind_entries : (live : List StorePrefix) (state last : Numbers) (es : List Entry) → Follow (numbering live) state es last
    → (k : ℕ) → last.next ≤ k → Alike k last.taken state.taken
behind_entries live state last [] follow k le =
    alike_by k last.taken state.taken (sym (ap (λ (n : Numbers). n.taken) follow))
behind_entries live state last (e ∷ es) follow k le =
    let is = (came state follow.1 e follow.2).is in
    let number : e.number ≡ free_from state.next state.taken = number_is state e.number follow.0 in
    let next : e.number + 1 ≡ follow.1.next = ap (λ (n : Numbers). n.next) is in
    let taken : taken_from state.next state.taken ≡ follow.1.taken = ap (λ (n : Numbers). n.taken) is in
    let grows : follow.1.next ≤ last.next = follow_grows live follow.1 last es follow.3 in
    let lower : free_from state.next state.taken < k =
    subst (λ (n : ℕ). n < k) number (through e.number follow.1.next k (omega (arith, next)) (omega (arith, grows, le))) in
    joined k last.taken follow.1.taken state.taken
    (behind_entries live follow.1 last es follow.3 k le)
    (joined k follow.1.taken (taken_from state.next state.taken) state.taken
    (alike_by k follow.1.taken (taken_from state.next state.taken) (sym taken))
    (behind_free state.next k state.taken lower))

-- no taken number stands behind this one, and it is free
pub record IsLast (k : ℕ) (ts : List ℕ) : Type 0 where
  pub free : free_from k ts ≡ k
  pub none : taken_from k ts ≡ []

-- where no taken number is behind the first free one, none is behind a later one
pub later_last : (next k : ℕ) (ts : List ℕ) → taken_from next ts ≡ [] → free_from next ts < k → IsLast k ts
later_last next k ts none lt =
    let alike = behind_free next k ts lt in
    record {
      free = sym alike.free ∙ ap (free_from k) none;
      none = sym alike.taken ∙ ap (taken_from k) none;
    }

cons_is_some : (t : ℕ) (ts : List ℕ) → t ∷ ts ≡ [] → ⊥
cons_is_some t ts is = cc

-- what is known of taken numbers with the first free one behind them
pub record IsTaken (next f : ℕ) (ts : List ℕ) : Type 0 where
  pub free : free_from next (ts ++ f ∷ []) ≡ f + 1
  pub none : taken_from next (ts ++ f ∷ []) ≡ []

pub now_taken : (next f : ℕ) (ts : List ℕ) → taken_from next ts ≡ [] → f ≡ free_from next ts → IsTaken next f ts
now_taken next f [] none is =
    let test : nat_lt next f ≡ false = le-ltb _ _ (omega (arith, is)) in
    let same : (f == next) ≡ true = eq-eqb f next is in
    record { free = rw (test, same) (ap (λ (n : ℕ). n + 1) (sym is)); none = rw (test, same) refl }
now_taken next f (t ∷ ts) none is =
    elim (place next t) [
      | inl a ↦ absurd (cons_is_some t ts (sym (a.taken ts) ∙ none))
      | inr p ↦
          let rest = now_taken p.from f ts (sym (p.taken ts) ∙ none) (is ∙ p.free ts) in
          record { free = p.free (ts ++ f ∷ []) ∙ rest.free; none = p.taken (ts ++ f ∷ []) ∙ rest.none }
    ]
