-- Which refusal of the machine each fault is.
use Rattle.std.specs.Prelude.{◌≡◌, ℕ, Option, Some, None}
use Rattle.hse_rows.specs.machine.Replies.{by_commit, by_abort, Refusal, ended_by, no_store, store_mode, key_length, value_length, prefix_length, broken, too_many, spent, txn_size, log_full, canceled_held, canceled_since}
use Rattle.view.specs.declared.get_fault.TxnState.{TxnState}
use Rattle.view.specs.declared.get_fault.TxnState.TheVariants as txn
use Rattle.engine_state.specs.declared.faults.BeginFault.{BeginFault}
use Rattle.engine_state.specs.declared.faults.BeginFault.TheVariants as begin_fault
use Rattle.engine_state.specs.declared.faults.WriteFault.{WriteFault}
use Rattle.engine_state.specs.declared.faults.WriteFault.TheVariants as write_fault
use Rattle.engine_state.specs.declared.faults.CommitFault.{CommitFault}
use Rattle.engine_state.specs.declared.faults.CommitFault.TheVariants as commit_fault
use Rattle.engine_state.specs.declared.faults.CursorsFull.{CursorsFull}

-- a transaction that ended so
abbrev pub SaysEnded : TxnState → Option (Refusal ℕ) → Type 0
SaysEnded txn.Active refusal = ⊥
SaysEnded txn.Committed refusal = refusal ≡ Some (ended_by by_commit)
SaysEnded txn.Aborted refusal = refusal ≡ Some (ended_by by_abort)

abbrev pub SaysBegin : BeginFault → Option (Refusal ℕ) → Type 0
SaysBegin (begin_fault.TooMany most) refusal = refusal ≡ Some (too_many most)
SaysBegin begin_fault.Spent refusal = refusal ≡ Some spent
SaysBegin begin_fault.NoMemory refusal = Unit {0}

abbrev pub SaysWrite : WriteFault → Option (Refusal ℕ) → Type 0
SaysWrite (write_fault.NotActive ended) refusal = SaysEnded ended refusal
SaysWrite write_fault.NoStore refusal = refusal ≡ Some no_store
SaysWrite write_fault.Mode refusal = refusal ≡ Some store_mode
SaysWrite (write_fault.KeyLength given) refusal = refusal ≡ Some (key_length given)
SaysWrite (write_fault.ValueLength given) refusal = refusal ≡ Some (value_length given)
SaysWrite (write_fault.PrefixLength given) refusal = refusal ≡ Some (prefix_length given)
SaysWrite write_fault.Broken refusal = refusal ≡ Some broken
SaysWrite write_fault.Spent refusal = refusal ≡ Some spent
SaysWrite (write_fault.TxnSize need room) refusal = refusal ≡ Some (txn_size need room)
SaysWrite (write_fault.LogFull need room) refusal = refusal ≡ Some (log_full need room)
SaysWrite (write_fault.Held order) refusal = refusal ≡ Some (canceled_held order)
SaysWrite (write_fault.Since number) refusal = refusal ≡ Some (canceled_since number)
SaysWrite write_fault.NoMemory refusal = Unit {0}

abbrev pub SaysCommit : CommitFault → Option (Refusal ℕ) → Type 0
SaysCommit (commit_fault.NotActive ended) refusal = SaysEnded ended refusal
SaysCommit commit_fault.Broken refusal = refusal ≡ Some broken
SaysCommit commit_fault.Spent refusal = refusal ≡ Some spent
SaysCommit (commit_fault.LogFull need room) refusal = refusal ≡ Some (log_full need room)
SaysCommit commit_fault.NoMemory refusal = Unit {0}

abbrev pub SaysFull : CursorsFull → Option (Refusal ℕ) → Type 0
SaysFull full refusal = refusal ≡ Some (too_many full.0)

-- The front of a table of refusals: a fault is its first, and none leaves what comes later.
abbrev pub Fronts : Option WriteFault → (Option (Refusal ℕ) → Option (Refusal ℕ)) → Type 0
Fronts None front = (later : Option (Refusal ℕ)) → front later ≡ later
Fronts (Some fault) front = (later : Option (Refusal ℕ)) → SaysWrite fault (front later)
