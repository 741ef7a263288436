-- Transactions: a snapshot, and the changes made in it.
use Rattle.std.specs.Prelude.{ℕ, Bool, true, false, List, [], ◌∷◌, ◌++◌}
use Rattle.hse_rows.specs.declared.write.Write.{Write}
use Rattle.hse_rows.specs.states.State.{State, applied_all}
use Rattle.hse_rows.specs.states.History.{Event, fold}

pub data TransactionState : Type 0 where
  active : TransactionState
  -- with this number: that of its event, or that of its snapshot where it made no change
  committed : ℕ → TransactionState
  aborted : TransactionState

pub record Transaction : Type 0 where
  -- how many began before it since the opening, which tells it from all others
  pub begun : ℕ
  -- the number of the state that it began at
  pub snapshot : ℕ
  -- its writes in the order made
  pub writes : List Write
  pub state : TransactionState

abbrev pub is_active : TransactionState → Bool
is_active active = true
is_active (committed number) = false
is_active aborted = false

-- a new one at this number
abbrev pub begins : ℕ → ℕ → Transaction
begins begun snapshot = record { begun = begun; snapshot = snapshot; writes = []; state = active }

-- one write more
abbrev pub staged : Transaction → Write → Transaction
staged transaction write = record transaction { writes = transaction.writes ++ write ∷ [] }

abbrev pub ended : Transaction → TransactionState → Transaction
ended transaction state = record transaction { state = state }

-- What a transaction reads: its snapshot with its own writes.
abbrev pub read_of : State → List Event → Transaction → State
read_of base events transaction = applied_all (fold base events transaction.snapshot) transaction.writes
