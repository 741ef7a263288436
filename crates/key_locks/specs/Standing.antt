-- How locks stand for a timeline of the machine: its active transactions hold them, and its commits are logged.
use Rattle.std.specs.Prelude.{◌≡◌, ℕ, ◌<◌, ◌≤◌, ◌==◌, ◌-◌, true, cond, List, [], ◌++◌, length, take, Option, Some, None, Result, Ok, Err}
use Rattle.hse_rows.specs.declared.write.Write.{Write}
use Rattle.hse_rows.specs.states.History.{Event, commits, creates, drops}
use Rattle.hse_rows.specs.writes.Overlap.{overlaps_some}
use Rattle.hse_rows.specs.transactions.Transaction.{Transaction, is_active}
use Rattle.hse_rows.specs.transactions.Timeline.{Timeline, transaction_of}
use Rattle.hse_rows.specs.transactions.Isolation.{event_of}
use Rattle.hse_rows.specs.transactions.Sources.{IsOfTransaction}
use Rattle.hse_rows.specs.transactions.Conflict.{Conflict, held, since}
use Rattle.key_locks.specs.declared.lock_fault.LockFault.{LockFault}
use Rattle.key_locks.specs.declared.lock_fault.LockFault.TheVariants.{Held, Since, NoMemory}
use Rattle.key_locks.specs.declared.locks.KeyLocks.{KeyLocks}
use Rattle.key_locks.specs.Locks.{writes_of, commits_of}
use Rattle.key_locks.specs.Since.{has_commit}

-- the writes of an active transaction
abbrev pub active_writes : Option Transaction → List Write
active_writes None = []
active_writes (Some transaction) = cond (is_active transaction.state) transaction.writes []

-- the writes of a commit
abbrev pub written : Option Event → List Write
written None = []
written (Some (commits writes)) = writes
written (Some (creates name mode prefix_length)) = []
written (Some (drops id)) = []

-- what the event of this number wrote
abbrev pub written_by : Timeline → ℕ → List Write
written_by m number = written (event_of m.base m.history number)

-- The locks stand for the active transactions, by their begin orders, and for the commits above a number.
pub record StandFor (locks : KeyLocks) (m : Timeline) (above : ℕ) : Type 0 where
  pub since_base : m.base.number ≤ above
  pub since_prune : locks.least ≤ above
  -- the same writes overlap what an active transaction locked and what it wrote; no other locked any
  pub active :
      (order : ℕ) (write : Write)
      → overlaps_some write (writes_of locks order) ≡ overlaps_some write (active_writes (transaction_of m order))
  -- what overlaps a logged write overlaps one of the commit of its number
  pub made :
      (number : ℕ) (write : Write) → above < number
      → has_commit write number (commits_of locks) ≡ true → overlaps_some write (written_by m number) ≡ true
  -- and the other way round, where that commit is a transaction's
  pub logged :
      (number : ℕ) (write : Write) → above < number → IsOfTransaction m number (written_by m number)
      → overlaps_some write (written_by m number) ≡ true → has_commit write number (commits_of locks) ≡ true

-- The answer tells the conflict, but for want of memory.
abbrev pub Tells : Option Conflict → Result (Unit {0}) LockFault → Type 0
Tells conflict (Ok done) = conflict ≡ None
Tells conflict (Err (Held holder)) = conflict ≡ Some (held holder)
Tells conflict (Err (Since number)) = conflict ≡ Some (since number)
Tells conflict (Err NoMemory) = Unit {0}

-- what a call leaves: the writes of each transaction, and those of commits
pub record Leaves (old new : KeyLocks) (writes : ℕ → List Write) (log : List (ℕ × Write)) : Type 0 where
  pub held : (order : ℕ) → writes_of new order ≡ writes order
  pub logged : commits_of new ≡ log
  pub least : new.least ≡ old.least

-- these writes of a transaction more
abbrev pub with_locks : KeyLocks → ℕ → List Write → ℕ → List Write
with_locks locks txn writes other = cond (other == txn) (writes_of locks other ++ writes) (writes_of locks other)

-- all but the last of a transaction, so many
abbrev pub without_last : KeyLocks → ℕ → ℕ → ℕ → List Write
without_last locks txn count other =
    cond (other == txn) (take (length (writes_of locks other) - count) (writes_of locks other)) (writes_of locks other)

-- all but those of a transaction
abbrev pub without_locks : KeyLocks → ℕ → ℕ → List Write
without_locks locks txn other = cond (other == txn) [] (writes_of locks other)
