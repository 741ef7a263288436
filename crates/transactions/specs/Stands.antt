-- The transaction of the machine that a transaction stands for, and how its calls lead on.
use Rattle.std.specs.Prelude.{◌≡◌, ℕ, List}
use Rattle.hse_rows.specs.declared.row.Row.{Row}
use Rattle.hse_rows.specs.declared.write.Write.{Write}
use Rattle.hse_rows.specs.writes.NormalForm.{normal_form}
use Rattle.hse_rows.specs.states.State.{State}
use Rattle.hse_rows.specs.states.History.{Event, fold}
use Rattle.hse_rows.specs.transactions.Transaction as machine
use Rattle.hse_rows.specs.transactions.Transaction.{Transaction, TransactionState, read_of}
use Rattle.view.specs.declared.get_fault.TxnState.{TxnState}
use Rattle.view.specs.declared.get_fault.TxnState.TheVariants as txn
use Rattle.view.specs.Views.{ViewState}
use Rattle.view.specs.Means.{state_of}
use Rattle.transactions.specs.Txns.{TxnKept, StagedState, begins, with_staged, with_state, reads}
use Rattle.transactions.specs.Stages.{IsStage}

-- how a transaction of the machine ended
abbrev pub ended_so : TransactionState → TxnState
ended_so machine.active = txn.Active
ended_so (machine.committed number) = txn.Committed
ended_so machine.aborted = txn.Aborted

-- its snapshot is the state of its number, and its writes are the normal form of those that were made, in order
pub record StandsFor {R : Type 0} (rows : R → List Row) (base : State) (events : List Event) (kept : TxnKept R) (transaction : Transaction) : Type 0 where
  pub begun : kept.id ≡ transaction.begun
  pub snapshot : kept.view.number ≡ transaction.snapshot
  pub state : kept.state ≡ ended_so transaction.state
  pub view : state_of rows kept.view ≡ fold base events transaction.snapshot
  pub writes : kept.writes ≡ normal_form transaction.writes

module _ (R : Type 0) (rows : R → List Row) where
  -- What it reads is what the machine's transaction reads.
  abbrev pub ReadsAreRead : Type 0
  ReadsAreRead =
      (base : State) (events : List Event) (kept : TxnKept R) (transaction : Transaction)
      → StandsFor rows base events kept transaction → reads rows kept ≡ read_of base events transaction

  -- A new one stands for a new one.
  abbrev pub NewStandForNew : Type 0
  NewStandForNew =
      (base : State) (events : List Event) (view : ViewState R) (id : ℕ)
      → state_of rows view ≡ fold base events view.number
      → StandsFor rows base events (begins id view) (machine.begins id view.number)

  -- One write more stands for one write more.
  abbrev pub StagesStand : Type 0
  StagesStand =
      (base : State) (events : List Event) (kept : TxnKept R) (transaction : Transaction) (write : Write) (more : StagedState)
      → StandsFor rows base events kept transaction → IsStage kept write more
      → StandsFor rows base events (with_staged kept more) (machine.staged transaction write)

  abbrev pub EndsStand : Type 0
  EndsStand =
      (base : State) (events : List Event) (kept : TxnKept R) (transaction : Transaction) (state : TransactionState)
      → StandsFor rows base events kept transaction
      → StandsFor rows base events (with_state kept (ended_so state)) (machine.ended transaction state)
