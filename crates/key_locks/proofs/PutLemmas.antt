-- A put meets what a deletion of its key does.
use Rattle.std.proofs.Common.{◌≡◌, ◌<◌, ◌==◌, ◌&&◌, ◌||◌, ℕ, true, List, [], ◌∷◌, Option, Some, None, Result, Ok, Err, refl, ap, sym, ◌∙◌}
use Rattle.std.specs.Option.{IfSome}
use Rattle.hse_rows.specs.declared.change.Change.{Change}
use Rattle.hse_rows.specs.declared.change.Change.TheVariants.{Put, Del, PDel}
use Rattle.hse_rows.specs.declared.store.StoreId.{StoreId}
use Rattle.hse_rows.specs.declared.write.Write.{Write}
use Rattle.hse_rows.specs.writes.Change.{write_of}
use Rattle.hse_rows.specs.writes.Overlap.{overlaps, overlaps_some}
use Rattle.key_locks.specs.declared.lock_fault.LockFault.{LockFault}
use Rattle.key_locks.specs.declared.lock_fault.LockFault.TheVariants.{Held, Since, NoMemory}
use Rattle.key_locks.specs.declared.locks.KeyLocks.{KeyLocks}
use Rattle.key_locks.specs.Answers.{IsAnswer, IsUnheld}
use Rattle.key_locks.specs.Locks.{writes_of, commits_of}
use Rattle.key_locks.specs.Names.{name_of, write_at}
use Rattle.key_locks.specs.Since.{has_commit, IsFirstSince}

meets-alike : (store : StoreId) (change : Change) (t : StoreId) (c : Change)
    → overlaps (write_at (name_of store change)) (record { store = t; change = c }) ≡ overlaps (write_of store change) (record { store = t; change = c })
meets-alike store (Put key value) t (Put k v) = refl
meets-alike store (Put key value) t (Del k) = refl
meets-alike store (Put key value) t (PDel p) = refl
meets-alike store (Del key) t c = refl
meets-alike store (PDel prefix) t c = refl

pub put-alike : (store : StoreId) (change : Change) (x : Write) → overlaps (write_at (name_of store change)) x ≡ overlaps (write_of store change) x
put-alike store change x = meets-alike store change x.store x.change

module _ (one another : Write) (alike : (x : Write) → overlaps one x ≡ overlaps another x) where
  some-alike : (xs : List Write) → overlaps_some one xs ≡ overlaps_some another xs
  some-alike [] = refl
  some-alike (x ∷ xs) = ap (λ b. b || overlaps_some one xs) (alike x) ∙ ap (λ b. overlaps another x || b) (some-alike xs)

  commit-alike : (n : ℕ) (cs : List (ℕ × Write)) → has_commit one n cs ≡ has_commit another n cs
  commit-alike n [] = refl
  commit-alike n (c ∷ cs) = ap (λ b. ((c.0 == n) && b) || has_commit one n cs) (alike c.1) ∙ ap (λ b. ((c.0 == n) && overlaps another c.1) || b) (commit-alike n cs)

  unheld-alike : (locks : KeyLocks) (txn : ℕ) → IsUnheld locks txn one → IsUnheld locks txn another
  unheld-alike locks txn is u apart = sym (some-alike (writes_of locks u)) ∙ is u apart

  since-alike : (snapshot : ℕ) (cs : List (ℕ × Write)) (first : Option ℕ) → IsFirstSince one snapshot cs first → IsFirstSince another snapshot cs first
  since-alike snapshot cs first is = record {
    least = λ n less has. is.least n less (commit-alike n cs ∙ has);
    found = found first is.found;
  }
    where
      found : (f : Option ℕ) → IfSome f (λ n. (snapshot < n) × (has_commit one n cs ≡ true)) → IfSome f (λ n. (snapshot < n) × (has_commit another n cs ≡ true))
      found None at = at
      found (Some n) at = (at.0, sym (commit-alike n cs) ∙ at.1)

  pub answer-alike : (locks : KeyLocks) (txn snapshot : ℕ) (result : Result (Unit {0}) LockFault) → IsAnswer locks txn snapshot one result → IsAnswer locks txn snapshot another result
  answer-alike locks txn snapshot (Ok done) is = (unheld-alike locks txn is.0, since-alike snapshot (commits_of locks) None is.1)
  answer-alike locks txn snapshot (Err (Held u)) is = record {
    other = is.other;
    overlapping = sym (some-alike (writes_of locks u)) ∙ is.overlapping;
    first = λ v apart some. is.first v apart (some-alike (writes_of locks v) ∙ some);
  }
  answer-alike locks txn snapshot (Err (Since n)) is = (unheld-alike locks txn is.0, since-alike snapshot (commits_of locks) (Some n) is.1)
  answer-alike locks txn snapshot (Err NoMemory) is = tt
