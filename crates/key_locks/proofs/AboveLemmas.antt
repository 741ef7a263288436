-- The prefixes that a name begins with, one of each length.
use Rattle.std.proofs.Common.{◌≡◌, ◌<◌, ◌≤◌, ◌+◌, ℕ, Bool, true, false, ◌==◌, List, [], ◌∷◌, length, take, refl, ap, sym, subst, zero, suc, ◌∙◌, ◌⊎◌, inl, inr, arith}
use Rattle.std.proofs.lemmas.List.{length-take}
use Rattle.std.specs.Prelude.{slice_index_or}
use Rattle.std.proofs.lemmas.Bool.{cases_lt}
use Rattle.std.specs.BTreeMap.{BTreeMap}
use Rattle.hse_rows.specs.writes.Change.{covers, Covers}
use Rattle.hse_rows.specs.laws.Covering.{covers-is}
use Rattle.key_locks.specs.declared.lock.Lock.{Lock}
use Rattle.key_locks.specs.declared.lock.Seen.{Seen}
use Rattle.key_locks.specs.declared.name.Name.{Name}
use Rattle.key_locks.specs.Table.{lock_at, no_lock}
use Rattle.key_locks.specs.Seen.{seen_with, IsSeen, IsOwn, IsAbove, IsMet, IsUsed, KnowsLengths}
use Rattle.key_locks.proofs.RangeLemmas.{both, and-true}
use Rattle.key_locks.proofs.SeenLemmas.{seen-same, seen-more}

abbrev pub shorter : Name → ℕ → Name
shorter name n = record { store = name.store; bytes = take n name.bytes; is_key = false }

-- the name's own, and those above it of less than n bytes
abbrev pub IsMetUpTo : Name → ℕ → Name → Type 0
IsMetUpTo name n q = IsOwn name q ⊎ (IsAbove name q × (length q.bytes < n))

same-prefix : (name q : Name) (n : ℕ) → IsAbove name q → length q.bytes ≡ n → q ≡ shorter name n
same-prefix name q n above is =
    let parts = both (q.store == name.store) (covers q.bytes name.bytes) above.1 in
    let covered : Covers q.bytes name.bytes = (covers-is q.bytes name.bytes).0 parts.1 in
    let store : q.store ≡ name.store = grind (arith, parts.0) in
    let bytes : q.bytes ≡ take n name.bytes = sym covered.1 ∙ ap (λ k. take k name.bytes) is in
    let with_store : ℕ → Name = λ s. record { store = s; bytes = q.bytes; is_key = q.is_key } in
    let with_bytes : List ℕ → Name = λ b. record { store = name.store; bytes = b; is_key = q.is_key } in
    let with_kind : Bool → Name = λ k. record { store = name.store; bytes = take n name.bytes; is_key = k } in
    ap with_store store ∙ ap with_bytes bytes ∙ ap with_kind above.0

above-length : (name q : Name) → IsAbove name q → length q.bytes ≤ length name.bytes
above-length name q above =
    let parts = both (q.store == name.store) (covers q.bytes name.bytes) above.1 in
    let covered : Covers q.bytes name.bytes = (covers-is q.bytes name.bytes).0 parts.1 in covered.0

shorter-above : (name : Name) (n : ℕ) → n ≤ length name.bytes → IsAbove name (shorter name n)
shorter-above name n fits =
    let size : length (take n name.bytes) ≡ n = (let is = length-take n name.bytes in omega (arith, is, fits)) in (
      refl,
      and-true (name.store == name.store) (covers (take n name.bytes) name.bytes) (grind arith)
          ((covers-is (take n name.bytes) name.bytes).1 (omega (arith, size, fits), ap (λ k. take k name.bytes) size)),
    )

module _ (table : BTreeMap Name Lock) (txn : ℕ) (lengths : List Bool) (knows : KnowsLengths table lengths) (name : Name) where
  pub above-none : (seen : Seen) → IsSeen table txn (IsOwn name) seen → IsSeen table txn (IsMetUpTo name 1) seen
  above-none seen is = seen-same table txn _ _ seen (λ q own. inl own) back is
    where
      short : (q : Name) → IsAbove name q × (length q.bytes < 1) → (lock_at table q ≡ no_lock) ⊎ IsUsed lengths (length q.bytes) → IsOwn name q ⊎ (lock_at table q ≡ no_lock)
      short q at (inl none) = inr none
      short q at (inr used) = let less = at.1 in let some = used.0 in absurd (omega (arith, less, some))

      back : (q : Name) → IsMetUpTo name 1 q → IsOwn name q ⊎ (lock_at table q ≡ no_lock)
      back q (inl own) = inl own
      back q (inr at) = short q at (knows q at.0.0)

  pub above-used : (n : ℕ) (seen : Seen) → n ≤ length name.bytes → IsSeen table txn (IsMetUpTo name n) seen
      → IsSeen table txn (IsMetUpTo name (n + 1)) (seen_with txn seen (lock_at table (shorter name n)))
  above-used n seen fits is = seen-more table txn (IsMetUpTo name n) (IsMetUpTo name (n + 1)) (shorter name n) seen forth at back is
    where
      size : length (take n name.bytes) ≡ n
      size = let is = length-take n name.bytes in omega (arith, is, fits)

      forth : (q : Name) → IsMetUpTo name n q → IsMetUpTo name (n + 1) q
      forth q (inl own) = inl own
      forth q (inr above) = inr (above.0, (let less = above.1 in omega (arith, less)))

      at : IsMetUpTo name (n + 1) (shorter name n)
      at = inr (shorter-above name n fits, omega (arith, size))

      by : (q : Name) → IsAbove name q → length q.bytes < n + 1 → (length q.bytes < n) ⊎ (n ≤ length q.bytes) → IsMetUpTo name n q ⊎ (q ≡ shorter name n)
      by q above most (inl less) = inl (inr (above, less))
      by q above most (inr least) = inr (same-prefix name q n above (omega (arith, most, least)))

      back : (q : Name) → IsMetUpTo name (n + 1) q → IsMetUpTo name n q ⊎ (q ≡ shorter name n)
      back q (inl own) = inl (inl own)
      back q (inr above) = by q above.0 above.1 (cases_lt (length q.bytes) n)

  pub above-unused : (n : ℕ) (seen : Seen) → (slice_index_or lengths n false ≡ true → n ≤ length name.bytes → ⊥) → IsSeen table txn (IsMetUpTo name n) seen
      → IsSeen table txn (IsMetUpTo name (n + 1)) seen
  above-unused n seen unused is = seen-same table txn (IsMetUpTo name n) (IsMetUpTo name (n + 1)) seen forth back is
    where
      forth : (q : Name) → IsMetUpTo name n q → IsMetUpTo name (n + 1) q
      forth q (inl own) = inl own
      forth q (inr above) = inr (above.0, (let less = above.1 in omega (arith, less)))

      last : (q : Name) → IsAbove name q → length q.bytes ≡ n → (lock_at table q ≡ no_lock) ⊎ IsUsed lengths (length q.bytes) → lock_at table q ≡ no_lock
      last q above same (inl none) = none
      last q above same (inr used) = absurd (unused (ap (λ k. slice_index_or lengths k false) (sym same) ∙ used.1) (subst (λ k. k ≤ length name.bytes) same (above-length name q above)))

      by : (q : Name) → IsAbove name q → length q.bytes < n + 1 → (length q.bytes < n) ⊎ (n ≤ length q.bytes) → IsMetUpTo name n q ⊎ (lock_at table q ≡ no_lock)
      by q above most (inl less) = inl (inr (above, less))
      by q above most (inr least) = inr (last q above (omega (arith, most, least)) (knows q above.0))

      back : (q : Name) → IsMetUpTo name (n + 1) q → IsMetUpTo name n q ⊎ (lock_at table q ≡ no_lock)
      back q (inl own) = inl (inl own)
      back q (inr above) = by q above.0 above.1 (cases_lt (length q.bytes) n)

  pub above-all : (n : ℕ) (seen : Seen) → length lengths ≤ n → IsSeen table txn (IsMetUpTo name n) seen → IsSeen table txn (IsMet name) seen
  above-all n seen most is = seen-same table txn (IsMetUpTo name n) (IsMet name) seen forth back is
    where
      forth : (q : Name) → IsMetUpTo name n q → IsMet name q
      forth q (inl own) = inl own
      forth q (inr above) = inr above.0

      long : (q : Name) → IsAbove name q → (lock_at table q ≡ no_lock) ⊎ IsUsed lengths (length q.bytes) → IsMetUpTo name n q ⊎ (lock_at table q ≡ no_lock)
      long q above (inl none) = inr none
      long q above (inr used) = let within = within-of lengths (length q.bytes) used.1 in inl (inr (above, omega (arith, within, most)))
        where
          within-of : (xs : List Bool) (k : ℕ) → slice_index_or xs k false ≡ true → k < length xs
          within-of [] k is = absurd cc
          within-of (x ∷ xs) zero is = omega arith
          within-of (x ∷ xs) (suc k) is = let rest = within-of xs k is in omega (arith, rest)

      back : (q : Name) → IsMet name q → IsMetUpTo name n q ⊎ (lock_at table q ≡ no_lock)
      back q (inl own) = inl (inl own)
      back q (inr above) = long q above (knows q above.0)
