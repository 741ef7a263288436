-- A transaction after its commit.
use Rattle.std.proofs.Common.{◌≡◌, ◌≢◌, refl, sym, ap, ◌∙◌, subst, ℕ, ◌+◌, ◌≤◌, List, [], ◌∷◌, ◌++◌, set, Result, Ok, Err, IfOk}
use Rattle.hse_rows.specs.declared.row.Row.{Row}
use Rattle.hse_rows.specs.declared.row_set.RowSet.{Ghosts}
use Rattle.hse_rows.specs.declared.write.Write.{Write}
use Rattle.hse_rows.specs.writes.NormalForm.{normal_form}
use Rattle.hse_rows.specs.states.State.{State}
use Rattle.hse_rows.specs.states.History.{Event, commits, last_number}
use Rattle.hse_rows.specs.laws.Folding.{fold-stays}
use Rattle.hse_rows.specs.transactions.Transaction as machine
use Rattle.hse_rows.specs.transactions.Transaction.{Transaction, TransactionState, active, committed, ended}
use Rattle.hse_rows.specs.transactions.Timeline.{Timeline, with_transaction, commit_number, number_of}
use Rattle.hse_rows.specs.machine.Calls as call
use Rattle.hse_rows.specs.machine.Core.{Core}
use Rattle.hse_rows.specs.machine.Replies.{Answer, ok}
use Rattle.hse_rows.specs.machine.CoreDone.{done}
use Rattle.view.specs.declared.get_fault.TxnState.TheVariants as txn
use Rattle.transactions.specs.Txns.{TxnKept, with_state}
use Rattle.transactions.specs.Stands.{StandsFor, EndsStand, ended_so}
use Rattle.engine_state.specs.declared.faults.CommitFault.{CommitFault}
use Rattle.engine_state.specs.declared.state.EngineState.{EngineState}
use Rattle.engine_state.specs.Serves.{IsSound, IsTxnOf}
use Rattle.engine_state.specs.Says.{SaysCommit}
use Rattle.engine_state.specs.Steps.{Steps}
use Rattle.engine_state.proofs.LiveLemmas.{get-set}
use Rattle.engine_state.proofs.EndLemmas.{commits-to}
use Rattle.engine_state.proofs.CommitLemmas.{with_commit, done-commit}
use Rattle.engine_state.proofs.CommitTables.{commit-reply, number-some, done-none}

-- a transaction that takes writes is active
pub is-going : (state : TransactionState) → txn.Active ≡ ended_so state → state ≡ active
is-going active is = refl
is-going (committed number) is = absurd cc
is-going machine.aborted is = absurd cc

-- later events change nothing of it
pub stands-grow : {R : Type 0} (rows : R → List Row) (base : State) (events later : List Event) (kept : TxnKept R) (transaction : Transaction)
    → transaction.snapshot ≤ last_number base events → StandsFor rows base events kept transaction
    → StandsFor rows base (events ++ later) kept transaction
stands-grow rows base events later kept transaction low s = record {
  begun = s.begun;
  snapshot = s.snapshot;
  state = s.state;
  view = s.view ∙ sym (fold-stays base events later transaction.snapshot low);
  writes = s.writes;
}

same-number : (a b : ℕ) → (let x : Answer ℕ = ok a in x) ≡ ok b → a ≡ b
same-number a b is = cc

module _ {R : Type 0} (g : Ghosts R) where
  -- with this number
  at-number : EndsStand R g.rows → (m : Core) → IsSound m → (kept : TxnKept R) (transaction : Transaction) → IsTxnOf g kept m.timeline transaction
      → (number : ℕ) → number ≡ commit_number m.timeline transaction transaction.writes
      → (writes : List Write) → transaction.writes ≡ writes
      → IsTxnOf g (with_state kept txn.Committed) (done m (call.commit kept.id)).timeline (ended transaction (committed number))
  at-number ends m sound kept transaction of number is [] none =
      let to : (done m (call.commit kept.id)).timeline ≡ with_transaction m.timeline kept.id (ended transaction (committed transaction.snapshot)) =
      ap (λ (c : Core). c.timeline) (done-none m kept.id transaction of.at none) ∙ commits-to m.timeline kept.id transaction of.at none in
      let snapshot : transaction.snapshot ≡ number = sym (is ∙ ap (commit_number m.timeline transaction) none) in
      subst (λ (t : Timeline). IsTxnOf g (with_state kept txn.Committed) t (ended transaction (committed number))) (sym to)
      (subst (λ (n : ℕ). IsTxnOf g (with_state kept txn.Committed) (with_transaction m.timeline kept.id (ended transaction (committed transaction.snapshot))) (ended transaction (committed n))) snapshot
      (record {
        at = get-set m.timeline.begun kept.id transaction (ended transaction (committed transaction.snapshot)) of.at;
        stands = ends m.timeline.base m.timeline.history kept transaction (committed transaction.snapshot) of.stands;
      }))
  at-number ends m sound kept transaction of number is (write ∷ writes) form =
      let some : transaction.writes ≢ [] = λ none. let e : write ∷ writes ≡ [] = sym form ∙ none in absurd cc in
      let last : number_of m.timeline + 1 ≡ number = sym (is ∙ number-some m transaction some) in
      let begun = set m.timeline.begun kept.id (ended transaction (committed (number_of m.timeline + 1))) in
      let after : Timeline = with_commit m.timeline (normal_form transaction.writes) begun in
      let to : (done m (call.commit kept.id)).timeline ≡ after = ap (λ (c : Core). c.timeline) (done-commit m kept.id transaction of.at some) in
      subst (λ (t : Timeline). IsTxnOf g (with_state kept txn.Committed) t (ended transaction (committed number))) (sym to)
      (subst (λ (n : ℕ). IsTxnOf g (with_state kept txn.Committed) after (ended transaction (committed n))) last
      (record {
        at = get-set m.timeline.begun kept.id transaction (ended transaction (committed (number_of m.timeline + 1))) of.at;
        stands = stands-grow g.rows m.timeline.base m.timeline.history (commits (normal_form transaction.writes) ∷ []) (with_state kept txn.Committed)
            (ended transaction (committed (number_of m.timeline + 1))) (sound.stands.isolated.each kept.id transaction of.at).until_now
            (ends m.timeline.base m.timeline.history kept transaction (committed (number_of m.timeline + 1)) of.stands);
      }))

  pub committed-txn : EndsStand R g.rows → (m : Core) → IsSound m → (kept new : TxnKept R) (transaction : Transaction) → IsTxnOf g kept m.timeline transaction
      → (result : Result ℕ CommitFault) (state : EngineState R g) → Steps g ok SaysCommit m (call.commit kept.id) result state
      → IfOk result (λ number. new ≡ with_state kept txn.Committed)
      → IfOk result (λ number. IsTxnOf g new (done m (call.commit kept.id)).timeline (ended transaction (committed number)))
  committed-txn ends m sound kept new transaction of (Ok number) state steps is =
      let there : ok number ≡ ok (commit_number m.timeline transaction transaction.writes) =
      steps.replied ∙ sym (commit-reply m kept.id transaction (commit_number m.timeline transaction transaction.writes) of.at refl) in
      subst (λ t. IsTxnOf g t (done m (call.commit kept.id)).timeline (ended transaction (committed number))) (sym is)
      (at-number ends m sound kept transaction of number (same-number _ _ there) transaction.writes refl)
  committed-txn ends m sound kept new transaction of (Err fault) state steps is = tt
