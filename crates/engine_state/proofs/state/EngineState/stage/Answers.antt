use Rattle.std.proofs.Common.{◌≡◌, ◌≤◌, refl, sym, ap, ◌∙◌, subst, arith, ℕ, [], ◌∷◌, ◌++◌, Option, Some, Ok, Err}
use Rattle.hse_rows.specs.declared.change.Change.{Change}
use Rattle.hse_rows.specs.declared.store.Mode.TheVariants.{Tx}
use Rattle.hse_rows.specs.declared.write.Write.{Write}
use Rattle.hse_rows.specs.writes.Change.{change_of, write_of}
use Rattle.hse_rows.specs.writes.NormalForm.{normal_form}
use Rattle.hse_rows.specs.writes.Charge.{charge_of}
use Rattle.hse_rows.specs.transactions.Moves as moves
use Rattle.hse_rows.specs.transactions.Transaction.{is_active, staged}
use Rattle.hse_rows.specs.transactions.Timeline.{Timeline, HasStore, IsActive, moved, snapshot_of, with_transaction}
use Rattle.hse_rows.specs.machine.Log as log
use Rattle.hse_rows.specs.machine.Replies.{Refusal, txn_size}
use Rattle.hse_rows.specs.machine.Core.{whole_room, write_to}
use Rattle.hse_rows.specs.machine.CoreRefusal.{unless_canceled}
use Rattle.key_locks.specs.declared.lock_fault.LockFault.{LockFault}
use Rattle.key_locks.specs.declared.lock_fault.LockFault.TheVariants.{Held, Since}
use Rattle.key_locks.specs.Answers.{IsAnswer}
use Rattle.key_locks.specs.Locks.{locked}
use Rattle.key_locks.specs.Standing.{StandFor, with_locks}
use Rattle.transactions.specs.Stages.{IsStage}
use Rattle.engine_state.specs.Serves.{handed}
use Rattle.engine_state.proofs.RefusalLemmas.{passed, stopped, is-lt, is-not_lt}
use Rattle.engine_state.proofs.EndLemmas.{ended-serves, same-serves}
use Rattle.engine_state.proofs.WriteLemmas.{answers, live-staged, low-snapshot, stage-form, writes-to}
use Rattle.engine_state.proofs.state.EngineState.stage.Goals as goal

pub keep-requires : goal.keep-requires
keep-requires g c = record { write = write_of c.args.store c.in-Ok.change; is = c.in-Ok-stage.ensures }

pub returns-then-charge-room-clause-step : goal.returns-then-charge-room-clause-step
returns-then-charge-room-clause-step g c m transaction there sound s of going id has =
    let order = c.args.txn.now.id in
    let locks = c.args.self.now.locks in
    let above = s.locks.above in
    let write : Write = write_to there (change_of c.args.change) in
    let asked : write_of c.args.store c.in-Ok.change ≡ write = λ i. record { store = record { 0 = sym id i }; change = c.in-Ok.ensures i } in
    let charge : c.charge-charge.result ≡ charge_of (normal_form (transaction.writes ++ write ∷ [])) =
    c.charge-charge.ensures
    ∙ ap charge_of (stage-form g.R.RowSet c.transactions_stand.ensures.stages m c.args.txn.now transaction of _ write asked c.in-Ok-stage.staged c.in-Ok-stage.ensures) in
    let room : c.room-room.result ≡ whole_room m = c.room-room.ensures ∙ ap log.room_of s.sizes.segment in (
      stopped _ _ _ (is-lt (whole_room m) (charge_of (normal_form (transaction.writes ++ write ∷ []))) (omega (arith, c.if-charge-room.true, charge, room)))
          ∙ ap (λ (n : ℕ). let r : Option (Refusal ℕ) = Some (txn_size n (whole_room m)) in r) (sym charge)
          ∙ ap (λ (n : ℕ). let r : Option (Refusal ℕ) = Some (txn_size c.charge-charge.result n) in r) (sym room),
      s,
    )

pub returns-in-Ok-try_lock-clause-step : goal.returns-in-Ok-try_lock-clause-step
returns-in-Ok-try_lock-clause-step g c m transaction there sound s of going id has =
    let order = c.args.txn.now.id in
    let locks = c.args.self.now.locks in
    let above = s.locks.above in
    let write : Write = write_to there (change_of c.args.change) in
    let asked : write_of c.args.store c.in-Ok.change ≡ write = λ i. record { store = record { 0 = sym id i }; change = c.in-Ok.ensures i } in
    let charge : c.charge-charge.result ≡ charge_of (normal_form (transaction.writes ++ write ∷ [])) =
    c.charge-charge.ensures
    ∙ ap charge_of (stage-form g.R.RowSet c.transactions_stand.ensures.stages m c.args.txn.now transaction of _ write asked c.in-Ok-stage.staged c.in-Ok-stage.ensures) in
    let room : c.room-room.result ≡ whole_room m = c.room-room.ensures ∙ ap log.room_of s.sizes.segment in
    let active : IsActive m.timeline order transaction = record { at = of.at; going = going } in
    let low : above ≤ transaction.snapshot = low-snapshot g.R.RowSet c.args.self.now m order transaction of.at (ap is_active going) s in
    let there-has : HasStore (snapshot_of m.timeline transaction) there.id Tx = subst (λ (n : ℕ). HasStore (snapshot_of m.timeline transaction) n Tx) (sym id) has in
    let told =
    answers c.locks_answer_the_conflict.ensures m sound locks above s.locks.stand order transaction active low write there-has (Ok tt)
    c.id.result c.snapshot.result (write_of c.args.store c.in-Ok.change) c.id.ensures (c.snapshot.ensures ∙ of.stands.snapshot) asked (c.in-Ok-try_lock.ensures.answer) in
    let stand : StandFor c.try_lock.new.self (moved m.timeline (moves.write_in order (write_of c.args.store c.in-Ok.change))) above =
    c.locks_stand_after_moves.ensures.locked locks c.try_lock.new.self m.timeline above s.locks.stand order transaction active c.args.store c.in-Ok.change
    (record {
      held = λ other. c.in-Ok-try_lock.ensures.writes other ∙ ap (λ n. with_locks locks n (locked c.args.store c.in-Ok.change ∷ []) other) c.id.ensures;
      logged = c.in-Ok-try_lock.ensures.commits;
      least = c.in-Ok-try_lock.ensures.least;
    }) in
    let to : moved m.timeline (moves.write_in order (write_of c.args.store c.in-Ok.change)) ≡ with_transaction m.timeline order (staged transaction write) =
    ap (λ (w : Write). moved m.timeline (moves.write_in order w)) asked ∙ writes-to m.timeline order transaction write of.at in (
      passed _ _ _ _ (is-not_lt (whole_room m) (charge_of (normal_form (transaction.writes ++ write ∷ []))) (omega (arith, c.if-charge-room.false, charge, room))) (ap unless_canceled told),
      ended-serves g.R.RowSet c.args.self.now _ m order (staged transaction write) (moved m.timeline (moves.write_in order write))
          (writes-to m.timeline order transaction write of.at) s
          (record { above = above; stand = subst (λ (t : Timeline). StandFor c.try_lock.new.self t above) to stand; reach = s.locks.reach })
          (s.live ∙ sym (live-staged m.timeline.begun order transaction write of.at))
          refl refl refl refl refl refl refl refl,
    )

pub returns-in-Ok-try_lock-clause-txn : goal.returns-in-Ok-try_lock-clause-txn
returns-in-Ok-try_lock-clause-txn g c = record {
  more = c.in-Ok-stage.staged;
  is = subst (λ (ch : Change). IsStage c.args.txn.now (write_of c.args.store ch) c.in-Ok-stage.staged) c.in-Ok.ensures c.in-Ok-stage.ensures;
  kept = c.keep.ensures;
}

pub returns-in-Err-Held-clause-step : goal.returns-in-Err-Held-clause-step
returns-in-Err-Held-clause-step g c m transaction there sound s of going id has =
    let order = c.args.txn.now.id in
    let locks = c.args.self.now.locks in
    let above = s.locks.above in
    let write : Write = write_to there (change_of c.args.change) in
    let asked : write_of c.args.store c.in-Ok.change ≡ write = λ i. record { store = record { 0 = sym id i }; change = c.in-Ok.ensures i } in
    let charge : c.charge-charge.result ≡ charge_of (normal_form (transaction.writes ++ write ∷ [])) =
    c.charge-charge.ensures
    ∙ ap charge_of (stage-form g.R.RowSet c.transactions_stand.ensures.stages m c.args.txn.now transaction of _ write asked c.in-Ok-stage.staged c.in-Ok-stage.ensures) in
    let room : c.room-room.result ≡ whole_room m = c.room-room.ensures ∙ ap log.room_of s.sizes.segment in
    let active : IsActive m.timeline order transaction = record { at = of.at; going = going } in
    let low : above ≤ transaction.snapshot = low-snapshot g.R.RowSet c.args.self.now m order transaction of.at (ap is_active going) s in
    let there-has : HasStore (snapshot_of m.timeline transaction) there.id Tx = subst (λ (n : ℕ). HasStore (snapshot_of m.timeline transaction) n Tx) (sym id) has in
    let told =
    answers c.locks_answer_the_conflict.ensures m sound locks above s.locks.stand order transaction active low write there-has (Err (Held c.in-Err-Held.order))
    c.id.result c.snapshot.result (write_of c.args.store c.in-Ok.change) c.id.ensures (c.snapshot.ensures ∙ of.stands.snapshot) asked (subst (λ (f : LockFault). IsAnswer locks c.id.result c.snapshot.result (write_of c.args.store c.in-Ok.change) (Err f)) c.in-Err-Held.field-0-is c.in-Err-Held.ensures.answer) in (
      passed _ _ _ _ (is-not_lt (whole_room m) (charge_of (normal_form (transaction.writes ++ write ∷ []))) (omega (arith, c.if-charge-room.false, charge, room))) (ap unless_canceled told),
      same-serves g.R.RowSet c.args.self.now _ m (handed m) s
          (record {
            above = above;
            stand = c.locks_stand_as_before.ensures.same locks c.try_lock.new.self m.timeline above s.locks.stand
                (record { held = c.in-Err-Held.ensures.same; logged = c.in-Err-Held.ensures.commits; least = c.in-Err-Held.ensures.least });
            reach = s.locks.reach;
          })
          refl refl refl refl refl refl refl refl refl,
    )

pub returns-in-Err-Since-clause-step : goal.returns-in-Err-Since-clause-step
returns-in-Err-Since-clause-step g c m transaction there sound s of going id has =
    let order = c.args.txn.now.id in
    let locks = c.args.self.now.locks in
    let above = s.locks.above in
    let write : Write = write_to there (change_of c.args.change) in
    let asked : write_of c.args.store c.in-Ok.change ≡ write = λ i. record { store = record { 0 = sym id i }; change = c.in-Ok.ensures i } in
    let charge : c.charge-charge.result ≡ charge_of (normal_form (transaction.writes ++ write ∷ [])) =
    c.charge-charge.ensures
    ∙ ap charge_of (stage-form g.R.RowSet c.transactions_stand.ensures.stages m c.args.txn.now transaction of _ write asked c.in-Ok-stage.staged c.in-Ok-stage.ensures) in
    let room : c.room-room.result ≡ whole_room m = c.room-room.ensures ∙ ap log.room_of s.sizes.segment in
    let active : IsActive m.timeline order transaction = record { at = of.at; going = going } in
    let low : above ≤ transaction.snapshot = low-snapshot g.R.RowSet c.args.self.now m order transaction of.at (ap is_active going) s in
    let there-has : HasStore (snapshot_of m.timeline transaction) there.id Tx = subst (λ (n : ℕ). HasStore (snapshot_of m.timeline transaction) n Tx) (sym id) has in
    let told =
    answers c.locks_answer_the_conflict.ensures m sound locks above s.locks.stand order transaction active low write there-has (Err (Since c.in-Err-Since.number))
    c.id.result c.snapshot.result (write_of c.args.store c.in-Ok.change) c.id.ensures (c.snapshot.ensures ∙ of.stands.snapshot) asked (subst (λ (f : LockFault). IsAnswer locks c.id.result c.snapshot.result (write_of c.args.store c.in-Ok.change) (Err f)) c.in-Err-Since.field-0-is c.in-Err-Since.ensures.answer) in (
      passed _ _ _ _ (is-not_lt (whole_room m) (charge_of (normal_form (transaction.writes ++ write ∷ []))) (omega (arith, c.if-charge-room.false, charge, room))) (ap unless_canceled told),
      same-serves g.R.RowSet c.args.self.now _ m (handed m) s
          (record {
            above = above;
            stand = c.locks_stand_as_before.ensures.same locks c.try_lock.new.self m.timeline above s.locks.stand
                (record { held = c.in-Err-Since.ensures.same; logged = c.in-Err-Since.ensures.commits; least = c.in-Err-Since.ensures.least });
            reach = s.locks.reach;
          })
          refl refl refl refl refl refl refl refl refl,
    )

pub returns-clause-step : goal.returns-clause-step
returns-clause-step g c m transaction there sound s of going id has =
    let locks = c.args.self.now.locks in
    let above = s.locks.above in (
      tt,
      same-serves g.R.RowSet c.args.self.now _ m (handed m) s
          (record {
            above = above;
            stand = c.locks_stand_as_before.ensures.same locks c.try_lock.new.self m.timeline above s.locks.stand
                (record { held = c.in-Err-NoMemory.ensures.same; logged = c.in-Err-NoMemory.ensures.commits; least = c.in-Err-NoMemory.ensures.least });
            reach = s.locks.reach;
          })
          refl refl refl refl refl refl refl refl refl,
    )
