-- Names that are met are those whose writes overlap.
use Rattle.std.proofs.Common.{◌≡◌, ◌==◌, ◌||◌, ℕ, Bool, true, false, List, [], ◌∷◌, map, refl, ap, sym, ◌∙◌, ◌⊎◌, ⊎_elim, inl, inr, arith}
use Rattle.std.specs.Cmp.Lexicographic.{same_text, nat_list_eq_equiv}
use Rattle.std.specs.Ordering.{is_eq}
use Rattle.hse_rows.specs.declared.write.Write.{Write}
use Rattle.hse_rows.specs.writes.Change.{covers}
use Rattle.hse_rows.specs.writes.NormalForm.{same}
use Rattle.hse_rows.specs.writes.Overlap.{overlaps, overlaps_some}
use Rattle.key_locks.specs.declared.name.Name.{Name}
use Rattle.key_locks.specs.Held.{has}
use Rattle.key_locks.specs.Names.{name_cmp, write_at}
use Rattle.key_locks.specs.Seen.{IsMet}
use Rattle.key_locks.proofs.NameLemmas.{same-name, name-self}
use Rattle.key_locks.proofs.RangeLemmas.{both, and-true}

pub or-true : (a b : Bool) → (a || b) ≡ true → (a ≡ true) ⊎ (b ≡ true)
or-true true b is = inl refl
or-true false b is = inr is

pub or-left : (a b : Bool) → a ≡ true → (a || b) ≡ true
or-left true b is = refl
or-left false b is = absurd cc

pub or-right : (a b : Bool) → b ≡ true → (a || b) ≡ true
or-right true b is = refl
or-right false b is = is

flip-eq : (a b : ℕ) → (a == b) ≡ true → (b == a) ≡ true
flip-eq a b is = let same : a ≡ b = grind (arith, is) in grind (arith, same)

made : ℕ → List ℕ → Bool → Name
made s b k = record { store = s; bytes = b; is_key = k }

-- a name whose write overlaps is met
met : (s : ℕ) (b : List ℕ) (k : Bool) (t : ℕ) (d : List ℕ) (l : Bool) → overlaps (write_at (record { store = s; bytes = b; is_key = k })) (write_at (record { store = t; bytes = d; is_key = l })) ≡ true
    → IsMet (record { store = s; bytes = b; is_key = k }) (record { store = t; bytes = d; is_key = l })
met s b true t d true is =
    let parts = both (s == t) (same b d) is in
    let with_store : ℕ → Name = λ x. record { store = x; bytes = d; is_key = true } in
    let with_bytes : List ℕ → Name = λ x. record { store = s; bytes = x; is_key = true } in
    let store : s ≡ t = (let e = parts.0 in grind (arith, e)) in
    inl (ap with_store (sym store) ∙ ap with_bytes (sym (same_text b d (sym parts.1))))
met s b true t d false is =
    let parts = both (s == t) (covers d b) is in
    inr (refl, and-true (t == s) (covers d b) (flip-eq s t parts.0) parts.1)
met s b false t d true is = inl is
met s b false t d false is =
    let parts = both (s == t) (covers b d || covers d b) is in
    ⊎_elim (λ one. inl (and-true (s == t) (covers b d) parts.0 one)) (λ other. inr (refl, and-true (t == s) (covers d b) (flip-eq s t parts.0) other))
    (or-true (covers b d) (covers d b) parts.1)

pub met-from : (name q : Name) → overlaps (write_at name) (write_at q) ≡ true → IsMet name q
met-from name q is = met name.store name.bytes name.is_key q.store q.bytes q.is_key is

self-eq : (s : ℕ) → (s == s) ≡ true
self-eq s = grind arith

-- and the other way round
overlapped : (s : ℕ) (b : List ℕ) (k : Bool) (t : ℕ) (d : List ℕ) (l : Bool) → IsMet (record { store = s; bytes = b; is_key = k }) (record { store = t; bytes = d; is_key = l })
    → overlaps (write_at (record { store = s; bytes = b; is_key = k })) (write_at (record { store = t; bytes = d; is_key = l })) ≡ true
overlapped s b true t d true (inl is) =
    let store : t ≡ s = ap (λ (n : Name). n.store) is in
    let bytes : d ≡ b = ap (λ (n : Name). n.bytes) is in
    and-true (s == t) (same b d) (ap (λ x. s == x) store ∙ self-eq s) (ap (same b) bytes ∙ nat_list_eq_equiv.refl b)
overlapped s b true t d false (inl is) = let kind : false ≡ true = ap (λ (n : Name). n.is_key) is in absurd cc
overlapped s b true t d true (inr is) = let kind = is.0 in absurd cc
overlapped s b true t d false (inr is) =
    let parts = both (t == s) (covers d b) is.1 in and-true (s == t) (covers d b) (flip-eq t s parts.0) parts.1
overlapped s b false t d true (inl is) = is
overlapped s b false t d true (inr is) = let kind = is.0 in absurd cc
overlapped s b false t d false (inl is) =
    let parts = both (s == t) (covers b d) is in and-true (s == t) (covers b d || covers d b) parts.0 (or-left (covers b d) (covers d b) parts.1)
overlapped s b false t d false (inr is) =
    let parts = both (t == s) (covers d b) is.1 in and-true (s == t) (covers b d || covers d b) (flip-eq t s parts.0) (or-right (covers b d) (covers d b) parts.1)

pub overlaps-from : (name q : Name) → IsMet name q → overlaps (write_at name) (write_at q) ≡ true
overlaps-from name q is = overlapped name.store name.bytes name.is_key q.store q.bytes q.is_key is

-- one of several names overlaps
pub some-from : (write : Write) (names : List Name) (q : Name) → has names q ≡ true → overlaps write (write_at q) ≡ true → overlaps_some write (map write_at names) ≡ true
some-from write [] q at is = absurd cc
some-from write (n ∷ names) q at is =
    by (some-from write names q) (or-true (is_eq (name_cmp n q)) (has names q) at)
  where
    by : (has names q ≡ true → overlaps write (write_at q) ≡ true → overlaps_some write (map write_at names) ≡ true)
        → (is_eq (name_cmp n q) ≡ true) ⊎ (has names q ≡ true) → (overlaps write (write_at n) || overlaps_some write (map write_at names)) ≡ true
    by rest (inl here) = or-left (overlaps write (write_at n)) _ (ap (λ m. overlaps write (write_at m)) (same-name n q here) ∙ is)
    by rest (inr later) = or-right (overlaps write (write_at n)) _ (rest later is)

pub some-is : (write : Write) (names : List Name) → overlaps_some write (map write_at names) ≡ true → (q : Name) × ((has names q ≡ true) × (overlaps write (write_at q) ≡ true))
some-is write [] is = absurd cc
some-is write (n ∷ names) is = by (some-is write names) (or-true (overlaps write (write_at n)) (overlaps_some write (map write_at names)) is)
  where
    by : (overlaps_some write (map write_at names) ≡ true → (q : Name) × ((has names q ≡ true) × (overlaps write (write_at q) ≡ true)))
        → (overlaps write (write_at n) ≡ true) ⊎ (overlaps_some write (map write_at names) ≡ true) → (q : Name) × ((has (n ∷ names) q ≡ true) × (overlaps write (write_at q) ≡ true))
    by rest (inl here) = (n, (or-left (is_eq (name_cmp n n)) (has names n) (name-self n), here))
    by rest (inr later) = let r = rest later in (r.0, (or-right (is_eq (name_cmp n r.0)) (has names r.0) r.1.0, r.1.1))
