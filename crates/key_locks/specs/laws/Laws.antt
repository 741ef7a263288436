-- Laws of locks that stand for a timeline, each the clause of a function of `src/laws.rt`.
use Rattle.std.specs.Prelude.{◌≡◌, ◌≢◌, ℕ, ◌+◌, ◌≤◌, List, [], ◌++◌, ◌∷◌, length, map, max, Option, Result}
use Rattle.std.specs.Option.{option_map}
use Rattle.hse_rows.specs.declared.change.Change.{Change}
use Rattle.hse_rows.specs.declared.store.Mode.{Mode}
use Rattle.hse_rows.specs.declared.store.Mode.TheVariants.{Tx}
use Rattle.hse_rows.specs.declared.store.StoreId.{StoreId}
use Rattle.hse_rows.specs.declared.write.Write.{Write}
use Rattle.hse_rows.specs.writes.Change.{write_of}
use Rattle.hse_rows.specs.states.State.{State, AreRising}
use Rattle.hse_rows.specs.transactions.Transaction.{Transaction}
use Rattle.hse_rows.specs.transactions.Moves.{begin, write_in, write_out, commit, abort, create, remove}
use Rattle.hse_rows.specs.transactions.Timeline.{Timeline, opened, number_of, snapshot_of, HasStore, IsActive, moved}
use Rattle.hse_rows.specs.transactions.Conflict.{conflict_of}
use Rattle.hse_rows.specs.transactions.Isolation.{IsIsolated}
use Rattle.hse_rows.specs.transactions.Sources.{IsSourced}
use Rattle.hse_rows.specs.machine.CoreRefusal.{first_in_store}
use Rattle.key_locks.specs.declared.lock_fault.LockFault.{LockFault}
use Rattle.key_locks.specs.declared.locks.KeyLocks.{KeyLocks}
use Rattle.key_locks.specs.Answers.{IsAnswer}
use Rattle.key_locks.specs.Holders.{IsFirstIn}
use Rattle.key_locks.specs.Locks.{writes_of, commits_of, locked}
use Rattle.key_locks.specs.Logged.{without_old}
use Rattle.key_locks.specs.Standing.{StandFor, Tells, Leaves, with_locks, without_last, without_locks}

-- What cancels a write to a `tx` store of the snapshot is what the machine says.
abbrev pub LocksAnswerTheConflict : Type 0
LocksAnswerTheConflict =
    (locks : KeyLocks) (m : Timeline) (above : ℕ) → StandFor locks m above
    → AreRising 0 m.base.number m.base.stores → IsIsolated m → IsSourced m
    → (order : ℕ) (transaction : Transaction) → IsActive m order transaction → above ≤ transaction.snapshot
    → (write : Write) → HasStore (snapshot_of m transaction) write.store.0 Tx
    → (result : Result (Unit {0}) LockFault) → IsAnswer locks order transaction.snapshot write result
    → Tells (conflict_of m.base m.history m.begun transaction write) result

-- No locks stand for a timeline that was just opened.
abbrev pub EmptyLocksStand : Type 0
EmptyLocksStand =
    (locks : KeyLocks) → ((order : ℕ) → writes_of locks order ≡ []) → commits_of locks ≡ [] → locks.least ≡ 0
    → (base : State) → StandFor locks (opened base) base.number

-- What a call leaves as it was, stands still.
abbrev pub UnchangedLocksStand : Type 0
UnchangedLocksStand =
    (old new : KeyLocks) (m : Timeline) (above : ℕ) → StandFor old m above
    → Leaves old new (writes_of old) (commits_of old) → StandFor new m above

-- A change that was locked is one that was written.
abbrev pub LockedChangesStand : Type 0
LockedChangesStand =
    (old new : KeyLocks) (m : Timeline) (above : ℕ) → StandFor old m above
    → (order : ℕ) (transaction : Transaction) → IsActive m order transaction
    → (store : StoreId) (change : Change)
    → Leaves old new (with_locks old order (locked store change ∷ [])) (commits_of old)
    → StandFor new (moved m (write_in order (write_of store change))) above

-- Changes that were locked and taken back leave what was there.
abbrev pub UndoneChangesStand : Type 0
UndoneChangesStand =
    (old mid new : KeyLocks) (m : Timeline) (above : ℕ) → StandFor old m above
    → (order : ℕ) (writes : List Write) → Leaves old mid (with_locks old order writes) (commits_of old)
    → Leaves mid new (without_last mid order (length writes)) (commits_of mid) → StandFor new m above

-- A release is an abort, or a commit without a write.
abbrev pub ReleasesStand : Type 0
ReleasesStand =
    (old new : KeyLocks) (m : Timeline) (above : ℕ) → StandFor old m above
    → (order : ℕ) (transaction : Transaction) → IsActive m order transaction
    → Leaves old new (without_locks old order) (commits_of old)
    → StandFor new (moved m (abort order)) above
    × (transaction.writes ≡ [] → StandFor new (moved m (commit order)) above)

-- A commit with a write has the number of its event.
abbrev pub CommitsStand : Type 0
CommitsStand =
    (old new : KeyLocks) (m : Timeline) (above : ℕ) → StandFor old m above
    → (order : ℕ) (transaction : Transaction) → IsActive m order transaction → transaction.writes ≢ []
    → Leaves old new (without_locks old order) (commits_of old ++ map (λ (write : Write). (number_of m + 1, write)) (writes_of old order))
    → StandFor new (moved m (commit order)) above

-- After a prune they stand from its number on.
abbrev pub PrunedLocksStand : Type 0
PrunedLocksStand =
    (old new : KeyLocks) (m : Timeline) (above : ℕ) → StandFor old m above
    → (least : ℕ) → commits_of new ≡ without_old (λ (commit : ℕ × Write). commit.0) least (commits_of old)
    → new.least ≡ max old.least least → ((order : ℕ) → writes_of new order ≡ writes_of old order)
    → StandFor new m (max above least)

-- A begin, and what is done outside of transactions, needs no call.
abbrev pub OtherMovesStand : Type 0
OtherMovesStand =
    (locks : KeyLocks) (m : Timeline) (above : ℕ) → StandFor locks m above
    → StandFor locks (moved m begin) above
    × (IsIsolated m → (write : Write) → StandFor locks (moved m (write_out write)) above)
    × ((name : List ℕ) (mode : Mode) (prefix_length : ℕ) → StandFor locks (moved m (create name mode prefix_length)) above)
    × ((id : ℕ) → StandFor locks (moved m (remove id)) above)

-- The first that has a lock in a store is the first begun of the active transactions that have a write in it.
abbrev pub FirstHoldersTell : Type 0
FirstHoldersTell =
    (locks : KeyLocks) (m : Timeline) (above : ℕ) → StandFor locks m above → IsIsolated m
    → (id : ℕ) (first : Option ℕ) → IsFirstIn locks id first
    → option_map (λ (transaction : Transaction). transaction.begun) (first_in_store m.begun id) ≡ first
