-- A history and the transactions that began in it, and how they go on. A machine with a log, a manifest, a turn and jobs has
-- a timeline, and each of its steps moves it by an allowed move or leaves it.
use Rattle.std.specs.Prelude.{◌≡◌, ℕ, ◌+◌, List, [], ◌∷◌, ◌++◌, length, set, slice_get, Option, Some, None}
use Rattle.hse_rows.specs.declared.store.Mode.{Mode}
use Rattle.hse_rows.specs.declared.store.Mode.TheVariants.{Plain, Tx}
use Rattle.hse_rows.specs.declared.write.Write.{Write}
use Rattle.hse_rows.specs.writes.NormalForm.{normal_form}
use Rattle.hse_rows.specs.states.State.{Store, State, store_named}
use Rattle.hse_rows.specs.states.History.{Event, commits, creates, drops, folded, fold, last_number}
use Rattle.hse_rows.specs.transactions.Transaction.{active, committed, aborted, Transaction, begins, staged, ended}
use Rattle.hse_rows.specs.transactions.Conflict.{conflict_of}
use Rattle.hse_rows.specs.transactions.Moves.{Move, begin, write_in, write_out, commit, abort, create, remove}

pub record Timeline : Type 0 where
  -- what was loaded, and the events since
  pub base : State
  pub history : List Event
  -- all transactions that began since, each at the place of its begin order
  pub begun : List Transaction

-- just loaded
abbrev pub opened : State → Timeline
opened base = record { base = base; history = []; begun = [] }

-- the state after the whole history, and its number
abbrev pub now : Timeline → State
now m = folded m.base m.history

abbrev pub number_of : Timeline → ℕ
number_of m = last_number m.base m.history

-- the state that a transaction began at
abbrev pub snapshot_of : Timeline → Transaction → State
snapshot_of m transaction = fold m.base m.history transaction.snapshot

-- the transaction of this begin order
abbrev pub transaction_of : Timeline → ℕ → Option Transaction
transaction_of m order = slice_get m.begun order

-- ---- what is allowed

-- a store of this id and mode is live in the state
pub record HasStore (state : State) (id : ℕ) (mode : Mode) : Type 0 where
  pub place : ℕ
  pub store : Store
  pub at : slice_get state.stores place ≡ Some store
  pub its_id : store.id ≡ id
  pub its_mode : store.mode ≡ mode

-- the active transaction of this begin order
pub record IsActive (m : Timeline) (order : ℕ) (transaction : Transaction) : Type 0 where
  pub at : transaction_of m order ≡ Some transaction
  pub going : transaction.state ≡ active

-- A write in a transaction is of a `tx` store of its snapshot, and nothing cancels it. One outside is of a `plain` store.
-- Only an active transaction ends. A new store has a name that no live store has.
abbrev pub Allows : Timeline → Move → Type 0
Allows m begin = Unit {0}
Allows m (write_in order write) =
    (transaction : Transaction) × IsActive m order transaction
    × HasStore (snapshot_of m transaction) write.store.0 Tx
    × (conflict_of m.base m.history m.begun transaction write ≡ None)
Allows m (write_out write) = HasStore (now m) write.store.0 Plain
Allows m (commit order) = (transaction : Transaction) × IsActive m order transaction
Allows m (abort order) = (transaction : Transaction) × IsActive m order transaction
Allows m (create name mode prefix_length) = store_named (now m) name ≡ None
Allows m (remove id) = Unit {0}

-- ---- where a move leads

-- something of a thing, where there is one
abbrev pub for_some : {X Y : Type 0} → Option X → Y → (X → Y) → Y
for_some None otherwise of_it = otherwise
for_some (Some x) otherwise of_it = of_it x

-- one event more
abbrev pub with_event : Timeline → Event → Timeline
with_event m event = record m { history = m.history ++ event ∷ [] }

-- another transaction in the place of this begin order
abbrev pub with_transaction : Timeline → ℕ → Transaction → Timeline
with_transaction m order transaction = record m { begun = set m.begun order transaction }

-- the number of a commit of these writes of a transaction
abbrev pub commit_number : Timeline → Transaction → List Write → ℕ
commit_number m transaction [] = transaction.snapshot
commit_number m transaction (write ∷ writes) = number_of m + 1

-- A commit without writes makes no event.
abbrev pub committing : Timeline → ℕ → Transaction → List Write → Timeline
committing m order transaction [] = with_transaction m order (ended transaction (committed transaction.snapshot))
committing m order transaction (write ∷ writes) =
    with_event (with_transaction m order (ended transaction (committed (number_of m + 1))))
    (commits (normal_form transaction.writes))

abbrev pub moved : Timeline → Move → Timeline
moved m begin = record m { begun = m.begun ++ begins (length m.begun) (number_of m) ∷ [] }
moved m (write_in order write) =
    for_some (transaction_of m order) m (λ transaction. with_transaction m order (staged transaction write))
moved m (write_out write) = with_event m (commits (normal_form (write ∷ [])))
moved m (commit order) =
    for_some (transaction_of m order) m (λ transaction. committing m order transaction transaction.writes)
moved m (abort order) =
    for_some (transaction_of m order) m (λ transaction. with_transaction m order (ended transaction aborted))
moved m (create name mode prefix_length) = with_event m (creates name mode prefix_length)
moved m (remove id) = with_event m (drops id)

-- The core stays, or an allowed move leads it on, or it is opened anew.
pub data Goes (old : Timeline) : Timeline → Type 0 where
  stays : Goes old old
  moves : (move : Move) → Allows old move → Goes old (moved old move)
  opens : (base : State) → Goes old (opened base)
