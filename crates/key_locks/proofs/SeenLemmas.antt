-- What one lock more says.
use Rattle.std.proofs.Common.{◌≡◌, ◌<◌, ◌≤◌, ℕ, Bool, true, false, cond, ◌==◌, Option, Some, None, min, max, refl, ap, sym, subst, ◌∙◌, ◌⊎◌, inl, inr, arith}
use Rattle.std.proofs.lemmas.Bool.{cases_lt}
use Rattle.std.specs.Option.{IfSome}
use Rattle.std.specs.BTreeMap.{BTreeMap}
use Rattle.key_locks.specs.declared.lock.Lock.{Lock}
use Rattle.key_locks.specs.declared.lock.Seen.{Seen}
use Rattle.key_locks.specs.declared.name.Name.{Name}
use Rattle.key_locks.specs.Table.{lock_at, no_lock}
use Rattle.key_locks.specs.Seen.{first_of, first_other, seen_with, nothing_seen, IsUpTo, IsSeen}

module _ (table : BTreeMap Name Lock) (txn : ℕ) where
  -- up to stays with one more
  up-to-stays : (first : Option ℕ) (lock : Option ℕ) (other : ℕ) → IsUpTo first other → IsUpTo (first_other txn first lock) other
  up-to-stays None lock other up = absurd up
  up-to-stays (Some first) None other up = up
  up-to-stays (Some first) (Some holder) other up = by (holder == txn)
    where
      by : (b : Bool) → IsUpTo (cond b (Some first) (Some (min first holder))) other
      by true = up
      by false = omega (arith, up)

  up-to-new : (first : Option ℕ) (other : ℕ) → (other ≡ txn → ⊥) → IsUpTo (first_other txn first (Some other)) other
  up-to-new first other apart = by (other == txn) refl first
    where
      by : (b : Bool) → (other == txn) ≡ b → (first : Option ℕ) → IsUpTo (cond b first (first_of first other)) other
      by true same first = absurd (apart (grind (arith, same)))
      by false same None = omega arith
      by false same (Some first) = omega arith

  abbrev Witness : (Name → Type 0) → ℕ → Type 0
  Witness R other = (other ≡ txn → ⊥) × ((q : Name) × (R q × ((lock_at table q).holder ≡ Some other)))

  lesser : (R : Name → Type 0) (first holder : ℕ) → Witness R first → Witness R holder → Witness R (min first holder)
  lesser R first holder one other = by (cases_lt first holder)
    where
      by : (first < holder) ⊎ (holder ≤ first) → Witness R (min first holder)
      by (inl less) = let same : first ≡ min first holder = omega (arith, less) in subst (Witness R) same one
      by (inr less) = let same : holder ≡ min first holder = omega (arith, less) in subst (Witness R) same other

  witness-more : (R : Name → Type 0) (name : Name) → R name → (first lock : Option ℕ) → (lock_at table name).holder ≡ lock
      → IfSome first (Witness R) → IfSome (first_other txn first lock) (Witness R)
  witness-more R name at first None is held = held
  witness-more R name at first (Some holder) is held = by (holder == txn) refl first held
    where
      by : (b : Bool) → (holder == txn) ≡ b → (first : Option ℕ) → IfSome first (Witness R) → IfSome (cond b first (first_of first holder)) (Witness R)
      by true same first held = held
      by false apart None held = ((λ same. absurd (grind (arith, apart, same))), (name, (at, is)))
      by false apart (Some first) held = lesser R first holder held ((λ same. absurd (grind (arith, apart, same))), (name, (at, is)))

  witness-same : (P Q : Name → Type 0) → ((q : Name) → P q → Q q) → (h : Option ℕ) → IfSome h (Witness P) → IfSome h (Witness Q)
  witness-same P Q forth None h = h
  witness-same P Q forth (Some other) h = (h.0, (h.1.0, (forth h.1.0 h.1.1.0, h.1.1.1)))

  -- what the lock of one name more says
  pub seen-more : (P Q : Name → Type 0) (name : Name) (seen : Seen) → ((q : Name) → P q → Q q) → Q name → ((q : Name) → Q q → P q ⊎ (q ≡ name))
      → IsSeen table txn P seen → IsSeen table txn Q (seen_with txn seen (lock_at table name))
  seen-more P Q name seen forth at back is = record {
    first = λ q other among held apart. first q other (back q among) held apart;
    newest = λ q among. newest q (back q among);
    holder = witness-more Q name at seen.holder _ refl (witness-same P Q forth seen.holder is.holder);
  }
    where
      first : (q : Name) (other : ℕ) → P q ⊎ (q ≡ name) → (lock_at table q).holder ≡ Some other → (other ≡ txn → ⊥)
          → IsUpTo (first_other txn seen.holder (lock_at table name).holder) other
      first q other (inl old) held apart = up-to-stays seen.holder (lock_at table name).holder other (is.first q other old held apart)
      first q other (inr new) held apart =
          let at : (lock_at table name).holder ≡ Some other = ap (λ n. (lock_at table n).holder) (sym new) ∙ held in
          rw at (up-to-new seen.holder other apart)

      newest : (q : Name) → P q ⊎ (q ≡ name) → (lock_at table q).newest ≤ max seen.newest (lock_at table name).newest
      newest q (inl old) = let up = is.newest q old in omega (arith, up)
      newest q (inr new) = rw new (omega arith)

  pub seen-nothing : IsSeen table txn (λ q. ⊥) nothing_seen
  seen-nothing = record {
    first = λ q other at held apart. absurd at;
    newest = λ q at. absurd at;
    holder = tt;
  }

  -- names without a lock may be left out
  pub seen-same : (P Q : Name → Type 0) (seen : Seen) → ((q : Name) → P q → Q q) → ((q : Name) → Q q → P q ⊎ (lock_at table q ≡ no_lock))
      → IsSeen table txn P seen → IsSeen table txn Q seen
  seen-same P Q seen forth back is = record {
    first = λ q other among held apart. first q other (back q among) held apart;
    newest = λ q among. newest q (back q among);
    holder = witness-same P Q forth seen.holder is.holder;
  }
    where
      first : (q : Name) (other : ℕ) → P q ⊎ (lock_at table q ≡ no_lock) → (lock_at table q).holder ≡ Some other → (other ≡ txn → ⊥) → IsUpTo seen.holder other
      first q other (inl at) held apart = is.first q other at held apart
      first q other (inr none) held apart = let not : None ≡ Some other = ap (λ (l : Lock). l.holder) (sym none) ∙ held in absurd cc

      newest : (q : Name) → P q ⊎ (lock_at table q ≡ no_lock) → (lock_at table q).newest ≤ seen.newest
      newest q (inl at) = is.newest q at
      newest q (inr none) = rw none (omega arith)
