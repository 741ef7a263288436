-- What calls keep: that a state of the machine is sound, and which transaction of the machine one stands for.
use Rattle.std.specs.Prelude.{◌≡◌, ℕ, Some, None}
use Rattle.hse_rows.specs.declared.row_set.RowSet.{Ghosts}
use Rattle.hse_rows.specs.states.State.{IsState}
use Rattle.hse_rows.specs.transactions.Transaction.{Transaction}
use Rattle.hse_rows.specs.transactions.Timeline.{transaction_of}
use Rattle.hse_rows.specs.machine.Calls.{outside, inside, Call, begin, write_by, get, commit, abort, list_stores, tree, info, take_place, give_place, pick, build, drop_job, next_job, take, take_install, write_turn, end_turn, reopen}
use Rattle.hse_rows.specs.machine.Replies.{Refusal, Answer}
use Rattle.hse_rows.specs.machine.Sizes.{Sizes, AreSizes}
use Rattle.hse_rows.specs.machine.Core.{Core, Stored, life, formatted}
use Rattle.hse_rows.specs.machine.CoreRefusal.{refusal}
use Rattle.hse_rows.specs.machine.CoreDone.{done, refused_to, failing}
use Rattle.hse_rows.specs.machine.CoreStep.{Found, loads, breaks_off, has_version, Step}
use Rattle.hse_rows.specs.machine.Limits.{IsWithinLimits}
use Rattle.transactions.specs.Txns.{TxnKept}
use Rattle.engine_state.specs.Serves.{IsSound, IsTxnOf}

-- ---- sound states

-- A life that begins within the limits, at a state, is sound.
abbrev pub LivesAreSound : Type 0
LivesAreSound = (stored : Stored) → IsWithinLimits (life stored) → IsState stored.base → IsSound (life stored)

-- So is a life on a device that was just formatted.
abbrev pub NewLivesAreSound : Type 0
NewLivesAreSound = (sizes : Sizes) (power : ℕ) → AreSizes sizes power → IsSound (life (formatted sizes))

-- the life at what is loaded is sound
abbrev pub LoadsSound : Found → Type 0
LoadsSound (loads stored) = IsSound (life stored)
LoadsSound (breaks_off part place) = Unit {0}
LoadsSound (has_version version) = Unit {0}

-- So is each state that a step leads to from a sound one.
abbrev pub StepsKeepSound : Type 0
StepsKeepSound =
    (found : Found) (old new : Core) (call : Call) (answer : Answer ℕ)
    → LoadsSound found → IsSound old → Step found old call answer new → IsSound new

-- So is what a call leads to that nothing refuses,
abbrev pub CallsKeepSound : Type 0
CallsKeepSound = (m : Core) (call : Call) → IsSound m → refusal m call ≡ None → IsSound (done m call)

-- what a refusal leads to,
abbrev pub RefusalsKeepSound : Type 0
RefusalsKeepSound =
    (m : Core) (call : Call) (reason : Refusal ℕ)
    → IsSound m → refusal m call ≡ Some reason → IsSound (refused_to m call)

-- and what a failed call of the device leads to.
abbrev pub FailuresKeepSound : Type 0
FailuresKeepSound = (m : Core) (call : Call) → IsSound m → IsSound (failing m call)

-- ---- transactions

-- the calls that may change the transaction of this begin order
abbrev pub ChangesTransaction : ℕ → Call → Type 0
ChangesTransaction order (write_by outside name change) = ⊥
ChangesTransaction order (write_by (inside other) name change) = other ≡ order
ChangesTransaction order (commit other) = other ≡ order
ChangesTransaction order (abort other) = other ≡ order
ChangesTransaction order reopen = Unit {0}
ChangesTransaction order begin = ⊥
ChangesTransaction order (get actor name key) = ⊥
ChangesTransaction order list_stores = ⊥
ChangesTransaction order (tree name) = ⊥
ChangesTransaction order info = ⊥
ChangesTransaction order take_place = ⊥
ChangesTransaction order give_place = ⊥
ChangesTransaction order (pick wish) = ⊥
ChangesTransaction order (build id) = ⊥
ChangesTransaction order (drop_job id) = ⊥
ChangesTransaction order next_job = ⊥
ChangesTransaction order (take wish) = ⊥
ChangesTransaction order (take_install id) = ⊥
ChangesTransaction order write_turn = ⊥
ChangesTransaction order end_turn = ⊥

module _ {R : Type 0} (g : Ghosts R) where
  -- A transaction stands for one of the machine as long as that stays what it is.
  abbrev pub TransactionsStay : Type 0
  TransactionsStay =
      (found : Found) (old new : Core) (call : Call) (answer : Answer ℕ) (txn : TxnKept R) (transaction : Transaction)
      → IsSound old → Step found old call answer new → IsTxnOf g txn old.timeline transaction
      → transaction_of new.timeline txn.id ≡ Some transaction → IsTxnOf g txn new.timeline transaction

  -- It does so over each step that is no write, no commit and no abort of it, and no reopening,
  abbrev pub OthersKeepTransactions : Type 0
  OthersKeepTransactions =
      (found : Found) (old new : Core) (call : Call) (answer : Answer ℕ) (txn : TxnKept R) (transaction : Transaction)
      → (ChangesTransaction txn.id call → ⊥) → IsSound old → Step found old call answer new
      → IsTxnOf g txn old.timeline transaction → IsTxnOf g txn new.timeline transaction

  -- and so to what such a call leads to that nothing refuses.
  abbrev pub OtherCallsKeepTransactions : Type 0
  OtherCallsKeepTransactions =
      (m : Core) (call : Call) (txn : TxnKept R) (transaction : Transaction)
      → (ChangesTransaction txn.id call → ⊥) → IsSound m → refusal m call ≡ None
      → IsTxnOf g txn m.timeline transaction → IsTxnOf g txn (done m call).timeline transaction
