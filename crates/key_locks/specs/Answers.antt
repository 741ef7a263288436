-- What cancels a write.
use Rattle.std.specs.Prelude.{◌≡◌, ◌≤◌, ℕ, true, false, Some, None, Result, Ok, Err}
use Rattle.hse_rows.specs.declared.write.Write.{Write}
use Rattle.hse_rows.specs.writes.Overlap.{overlaps_some}
use Rattle.key_locks.specs.declared.lock_fault.LockFault.{LockFault}
use Rattle.key_locks.specs.declared.lock_fault.LockFault.TheVariants.{Held, Since, NoMemory}
use Rattle.key_locks.specs.declared.locks.KeyLocks.{KeyLocks}
use Rattle.key_locks.specs.Locks.{writes_of, commits_of}
use Rattle.key_locks.specs.Since.{IsFirstSince}

-- no other transaction has a write that overlaps
abbrev pub IsUnheld : KeyLocks → ℕ → Write → Type 0
IsUnheld locks txn write = (other : ℕ) → (other ≡ txn → ⊥) → overlaps_some write (writes_of locks other) ≡ false

-- the first of the other transactions that have one
pub record IsHolder (locks : KeyLocks) (txn : ℕ) (write : Write) (holder : ℕ) : Type 0 where
  pub other : holder ≡ txn → ⊥
  pub overlapping : overlaps_some write (writes_of locks holder) ≡ true
  pub first : (another : ℕ) → (another ≡ txn → ⊥) → overlaps_some write (writes_of locks another) ≡ true → holder ≤ another

-- A holder comes before a commit since the snapshot.
abbrev pub IsAnswer : KeyLocks → ℕ → ℕ → Write → Result (Unit {0}) LockFault → Type 0
IsAnswer locks txn snapshot write (Ok done) = IsUnheld locks txn write × IsFirstSince write snapshot (commits_of locks) None
IsAnswer locks txn snapshot write (Err (Held holder)) = IsHolder locks txn write holder
IsAnswer locks txn snapshot write (Err (Since number)) = IsUnheld locks txn write × IsFirstSince write snapshot (commits_of locks) (Some number)
IsAnswer locks txn snapshot write (Err NoMemory) = Unit {0}
