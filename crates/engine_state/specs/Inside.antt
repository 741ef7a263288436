-- A write in a transaction, in two parts of the table of its refusals.
use Rattle.std.specs.Prelude.{◌≡◌, ℕ, List, [], ◌∷◌, ◌++◌, not, Option, Some, None, Result, Ok, Err, is_some}
use Rattle.hse_rows.specs.declared.row_set.RowSet.{Ghosts}
use Rattle.hse_rows.specs.declared.change.Change.{Change}
use Rattle.hse_rows.specs.declared.write.Write.{Write}
use Rattle.hse_rows.specs.writes.NormalForm.{normal_form}
use Rattle.hse_rows.specs.writes.Charge.{charge_of}
use Rattle.hse_rows.specs.states.State.{Store, store_of, store_named}
use Rattle.hse_rows.specs.transactions.Moves as moves
use Rattle.hse_rows.specs.transactions.Transaction.{Transaction, staged}
use Rattle.hse_rows.specs.transactions.Timeline.{snapshot_of}
use Rattle.hse_rows.specs.transactions.Conflict.{conflict_of}
use Rattle.hse_rows.specs.machine.Replies.{Refusal, no_store, store_mode, broken}
use Rattle.hse_rows.specs.machine.Calls.{inside, write_by}
use Rattle.hse_rows.specs.machine.Core.{Core, now, write_to, with_move}
use Rattle.hse_rows.specs.machine.CoreRefusal.{refuse, is_tx, change_refusal, size_refusal, unless_canceled}
use Rattle.hse_rows.specs.machine.CoreDone.{done}
use Rattle.transactions.specs.Txns.{TxnKept, StagedState, with_staged}
use Rattle.transactions.specs.Stages.{IsStage}
use Rattle.engine_state.specs.declared.faults.WriteFault.{WriteFault}
use Rattle.engine_state.specs.declared.state.EngineState.{EngineState}
use Rattle.engine_state.specs.Serves.{Serves, IsTxnOf}
use Rattle.engine_state.specs.Says.{SaysWrite}

-- what is asked of the store, of the change and of the engine
abbrev pub inside_front : Core → Change → Store → Option (Refusal ℕ) → Option (Refusal ℕ)
inside_front m change store later =
    refuse (not (is_some (store_of (now m) store.id))) no_store
    (refuse (not (is_tx store.mode)) store_mode
    (change_refusal m.sizes store change
    (refuse m.is_broken broken later)))

-- and then of the size of the commit, and of other transactions and commits
abbrev pub inside_rest : Core → Change → Transaction → Store → Option (Refusal ℕ)
inside_rest m change transaction store =
    size_refusal m (charge_of (normal_form (transaction.writes ++ write_to store change ∷ [])))
    (unless_canceled (conflict_of m.timeline.base m.timeline.history m.timeline.begun transaction (write_to store change)))

-- the transaction has one write more
pub record WasKept {R : Type 0} (old : TxnKept R) (write : Write) (new : TxnKept R) : Type 0 where
  pub more : StagedState
  pub is : IsStage old write more
  pub kept : new ≡ with_staged old more

module _ {R : Type 0} (g : Ghosts R) where
  abbrev pub IsStaged : Core → Change → ℕ → Transaction → Store → Result (Unit {0}) WriteFault → EngineState R g → Type 0
  IsStaged m change order transaction store (Ok kept) new =
      (inside_rest m change transaction store ≡ None)
      × Serves g new (with_move m (moves.write_in order (write_to store change)))
  IsStaged m change order transaction store (Err fault) new =
      SaysWrite fault (inside_rest m change transaction store) × Serves g new m

  -- After a write in a transaction it is that of the machine, with the write of the store of its snapshot.
  pub record IsWritten (m : Core) (change : Change) (name : List ℕ) (transaction : Transaction) (old new : TxnKept R) : Type 0 where
    pub store : Store
    pub named : store_named (snapshot_of m.timeline transaction) name ≡ Some store
    pub txn :
        IsTxnOf g new (done m (write_by (inside old.id) name change)).timeline (staged transaction (write_to store change))
