-- The table of a commit's refusals, and its reply.
use Rattle.std.proofs.Common.{◌≡◌, ◌≢◌, refl, sym, ap, ◌∙◌, ℕ, ◌+◌, ◌-◌, List, [], ◌∷◌, Option, Some}
use Rattle.hse_rows.specs.declared.write.Write.{Write}
use Rattle.hse_rows.specs.declared.row_set.RowSet.{Ghosts}
use Rattle.hse_rows.specs.writes.NormalForm.{normal_form}
use Rattle.hse_rows.specs.writes.Charge.{charge_of}
use Rattle.hse_rows.specs.transactions.Moves as moves
use Rattle.hse_rows.specs.transactions.Transaction.{Transaction, TransactionState, active}
use Rattle.hse_rows.specs.transactions.Timeline.{transaction_of, commit_number, for_some}
use Rattle.hse_rows.specs.machine.Log as log
use Rattle.hse_rows.specs.machine.Replies.{Refusal, Answer, accepted, ok, no_name, broken, spent}
use Rattle.hse_rows.specs.machine.Calls as call
use Rattle.hse_rows.specs.machine.Core.{Core, number_of, left_room, with_move}
use Rattle.hse_rows.specs.machine.CoreRefusal.{refuse, in_transaction, unless_ended, is_spent, room_refusal, commit_refusal}
use Rattle.hse_rows.specs.machine.CoreReply.{reply}
use Rattle.hse_rows.specs.machine.CoreDone.{done, log_with}
use Rattle.engine_state.specs.declared.state.EngineState.{EngineState}
use Rattle.engine_state.specs.Kept.{left_of}
use Rattle.engine_state.specs.Serves.{Serves}

pub in-active : (m : Core) (order : ℕ) (transaction : Transaction) (later : Transaction → Option (Refusal ℕ))
    → transaction_of m.timeline order ≡ Some transaction → transaction.state ≡ active → in_transaction m order later ≡ later transaction
in-active m order transaction later at going =
    ap (λ o. for_some o (Some no_name) (λ (t : Transaction). unless_ended t.state (later t))) at
    ∙ ap (λ (state : TransactionState). unless_ended state (later transaction)) going

pub commit-table : (m : Core) (writes : List Write) → writes ≢ []
    → commit_refusal m writes ≡ refuse m.is_broken broken (refuse (is_spent m) spent (room_refusal m (charge_of (normal_form writes))))
commit-table m [] some = absurd (some refl)
commit-table m (write ∷ writes) some = refl

pub commit-reply : (m : Core) (order : ℕ) (transaction : Transaction) (number : ℕ) → transaction_of m.timeline order ≡ Some transaction
    → commit_number m.timeline transaction transaction.writes ≡ number → ok number ≡ reply m (call.commit order)
commit-reply m order transaction number at is =
    let there : reply m (call.commit order) ≡ ok (commit_number m.timeline transaction transaction.writes) =
    ap (λ o. for_some o accepted (λ (t : Transaction). ok (commit_number m.timeline t t.writes))) at in
    sym (there ∙ ap (λ (n : ℕ). let a : Answer ℕ = ok n in a) is)

pub number-some : (m : Core) (transaction : Transaction) → transaction.writes ≢ []
    → commit_number m.timeline transaction transaction.writes ≡ number_of m + 1
number-some m transaction some = by transaction.writes some
  where
    by : (writes : List Write) → writes ≢ [] → commit_number m.timeline transaction writes ≡ number_of m + 1
    by [] some = absurd (some refl)
    by (write ∷ writes) some = refl

pub done-none : (m : Core) (order : ℕ) (transaction : Transaction) → transaction_of m.timeline order ≡ Some transaction → transaction.writes ≡ []
    → done m (call.commit order) ≡ with_move m (moves.commit order)
done-none m order transaction at none =
    ap (λ o. for_some o m (λ (t : Transaction). record (with_move m (moves.commit order)) { log = log_with m t.writes })) at
    ∙ ap (λ (w : List Write). record (with_move m (moves.commit order)) { log = log_with m w }) none

pub left-is : {R : Type 0} (g : Ghosts R) (state : EngineState R g) (m : Core) → Serves g state m → left_of state ≡ left_room m
left-is g state m s =
    ap (λ (n : ℕ). log.room_of n - state.charge) s.sizes.segment
    ∙ ap (λ (n : ℕ). log.room_of m.sizes.segment_size - n) s.charge
