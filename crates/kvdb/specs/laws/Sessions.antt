-- Calls of sessions let a life grow: they change neither the turn nor what the device has.
use Rattle.std.proofs.Common.{◌≡◌, ℕ, ◌+◌, ◌-◌, List, [], ◌∷◌, ◌++◌, length, Option, Some, None, refl, sym, ap, subst}
use Rattle.std.proofs.lemmas.List.{append-nil}
use Rattle.hse_rows.specs.declared.write.Write.{Write}
use Rattle.hse_rows.specs.writes.NormalForm.{normal_form}
use Rattle.hse_rows.specs.states.State.{Store, store_named}
use Rattle.hse_rows.specs.states.History.{commits}
use Rattle.hse_rows.specs.transactions.Moves as moves
use Rattle.hse_rows.specs.transactions.Transaction.{Transaction, begins, staged, ended, committed, aborted}
use Rattle.hse_rows.specs.transactions.Timeline.{transaction_of, snapshot_of, with_transaction, for_some, committing}
use Rattle.hse_rows.specs.machine.Log.{Numbered}
use Rattle.hse_rows.specs.machine.Calls as call
use Rattle.hse_rows.specs.machine.Calls.{outside, inside, Call}
use Rattle.hse_rows.specs.machine.Core.{Core, now, number_of, write_to, with_move}
use Rattle.hse_rows.specs.machine.CoreDone.{done, committing_write, log_with}
use Rattle.kvdb.specs.Growth.{Grows, IsSession}

-- no event
grows_by : (m : Core) (begun : List Transaction) (cursors : ℕ)
    → Grows m (record m { timeline = record { base = m.timeline.base; history = m.timeline.history; begun = begun }; cursors = cursors })
grows_by m begun cursors = record {
  sizes = refl;
  base = refl;
  more = [];
  history = sym (append-nil m.timeline.history);
  log = ap (λ (l : List Numbered). record m.log { active = l }) (sym (append-nil m.log.active));
  manifest = refl;
  layout = refl;
  used_slots = refl;
  safe = refl;
  is_broken = refl;
  turn = refl;
  jobs = refl;
}

-- one commit
grows_one : (m : Core) (begun : List Transaction) (writes : List Write)
    → Grows m (record m {
      timeline = record { base = m.timeline.base; history = m.timeline.history ++ commits writes ∷ []; begun = begun };
      log = record m.log { active = m.log.active ++ record { number = number_of m + 1; writes = writes } ∷ [] };
    })
grows_one m begun writes = record {
  sizes = refl;
  base = refl;
  more = commits writes ∷ [];
  history = refl;
  log = refl;
  manifest = refl;
  layout = refl;
  used_slots = refl;
  safe = refl;
  is_broken = refl;
  turn = refl;
  jobs = refl;
}

pub grows_still : (m : Core) → Grows m m
grows_still m = grows_by m m.timeline.begun m.cursors

commit_grows : (m : Core) (order : ℕ) (transaction : Transaction) (writes : List Write) → writes ≡ transaction.writes
    → Grows m (record m { timeline = committing m.timeline order transaction writes; log = log_with m writes })
commit_grows m order transaction [] same = grows_by m (with_transaction m.timeline order (ended transaction (committed transaction.snapshot))).begun m.cursors
commit_grows m order transaction (write ∷ writes) same =
    let form : normal_form transaction.writes ≡ normal_form (write ∷ writes) = ap normal_form (sym same) in
    subst (λ (ws : List Write). Grows m (record m {
      timeline = record {
        base = m.timeline.base;
        history = m.timeline.history ++ commits (normal_form transaction.writes) ∷ [];
        begun = (with_transaction m.timeline order (ended transaction (committed (number_of m + 1)))).begun;
      };
      log = record m.log { active = m.log.active ++ record { number = number_of m + 1; writes = ws } ∷ [] };
    })) form
    (grows_one m (with_transaction m.timeline order (ended transaction (committed (number_of m + 1)))).begun (normal_form transaction.writes))

pub session_grows : (m : Core) (what : Call) → IsSession what → Grows m (done m what)
session_grows m call.begin is = grows_by m (m.timeline.begun ++ begins (length m.timeline.begun) (number_of m) ∷ []) m.cursors
session_grows m (call.write_by outside name change) is = by (store_named (now m) name)
  where
    by : (found : Option Store) → Grows m (for_some found m (λ store. committing_write m (write_to store change)))
    by None = grows_still m
    by (Some store) = grows_one m m.timeline.begun (normal_form (write_to store change ∷ []))
session_grows m (call.write_by (inside order) name change) is = by (transaction_of m.timeline order) refl
  where
    in_store : (transaction : Transaction) → transaction_of m.timeline order ≡ Some transaction → (found : Option Store)
        → Grows m (for_some found m (λ store. with_move m (moves.write_in order (write_to store change))))
    in_store transaction at None = grows_still m
    in_store transaction at (Some store) =
        subst (λ (o : Option Transaction). Grows m (record m {
          timeline = for_some o m.timeline
              (λ t. with_transaction m.timeline order (staged t (write_to store change)));
        })) (sym at)
        (grows_by m (with_transaction m.timeline order (staged transaction (write_to store change))).begun m.cursors)

    by : (found : Option Transaction) → transaction_of m.timeline order ≡ found
        → Grows m (for_some found m (λ transaction.
        for_some (store_named (snapshot_of m.timeline transaction) name) m (λ store. with_move m (moves.write_in order (write_to store change)))))
    by None at = grows_still m
    by (Some transaction) at = in_store transaction at (store_named (snapshot_of m.timeline transaction) name)
session_grows m (call.get actor name key) is = grows_still m
session_grows m (call.commit order) is = by (transaction_of m.timeline order) refl
  where
    by : (found : Option Transaction) → transaction_of m.timeline order ≡ found
        → Grows m (for_some found m (λ transaction. record (with_move m (moves.commit order)) { log = log_with m transaction.writes }))
    by None at = grows_still m
    by (Some transaction) at =
        subst (λ (o : Option Transaction). Grows m (record m {
          timeline = for_some o m.timeline (λ t. committing m.timeline order t t.writes);
          log = log_with m transaction.writes;
        })) (sym at)
        (commit_grows m order transaction transaction.writes refl)
session_grows m (call.abort order) is = by (transaction_of m.timeline order)
  where
    by : (found : Option Transaction)
        → Grows m (record m { timeline = for_some found m.timeline (λ transaction. with_transaction m.timeline order (ended transaction aborted)) })
    by None = grows_still m
    by (Some transaction) = grows_by m (with_transaction m.timeline order (ended transaction aborted)).begun m.cursors
session_grows m call.list_stores is = grows_still m
session_grows m (call.tree name) is = absurd is
session_grows m call.info is = grows_still m
session_grows m call.take_place is = grows_by m m.timeline.begun (m.cursors + 1)
session_grows m call.give_place is = grows_by m m.timeline.begun (m.cursors - 1)
session_grows m (call.pick wish) is = absurd is
session_grows m (call.build id) is = absurd is
session_grows m (call.drop_job id) is = absurd is
session_grows m call.next_job is = absurd is
session_grows m (call.take wish) is = absurd is
session_grows m (call.take_install id) is = absurd is
session_grows m call.write_turn is = absurd is
session_grows m call.end_turn is = absurd is
session_grows m call.reopen is = absurd is
