use Rattle.std.proofs.Common.{◌≡◌, ◌≢◌, refl, sym, ap, ◌∙◌, subst, arith, ℕ, ◌+◌, List, [], length, Option, Some}
use Rattle.hse_rows.specs.declared.write.Write.{Write}
use Rattle.hse_rows.specs.writes.NormalForm.{normal_form}
use Rattle.hse_rows.specs.writes.Charge.{charge_of}
use Rattle.hse_rows.specs.transactions.Transaction.{Transaction}
use Rattle.hse_rows.specs.transactions.Timeline.{commit_number}
use Rattle.hse_rows.specs.machine.Replies.{Refusal, broken, spent, log_full}
use Rattle.hse_rows.specs.machine.Core.{number_of, left_room, greatest_number}
use Rattle.hse_rows.specs.machine.CoreRefusal.{commit_refusal, is_spent}
use Rattle.engine_state.specs.Serves.{Serves}
use Rattle.engine_state.proofs.NormalLemmas.{none-left, nothing-left}
use Rattle.engine_state.proofs.RefusalLemmas.{passed, stopped, is-le, is-not_le, is-lt, is-not_lt}
use Rattle.engine_state.proofs.SoundLemmas.{view-number}
use Rattle.engine_state.proofs.CommitTables.{in-active, commit-table, commit-reply, number-some, done-none, left-is}
use Rattle.engine_state.proofs.state.EngineState.commit_active.Goals as goal

-- a normal form that has writes is of writes
some-writes : (kept writes : List Write) → kept ≡ normal_form writes → length kept ≢ 0 → writes ≢ []
some-writes kept writes is some none = some (ap length is ∙ ap (λ (w : List Write). length (normal_form w)) none ∙ nothing-left)

pub returns-then-len-eq0-clause-step : goal.returns-then-len-eq0-clause-step
returns-then-len-eq0-clause-step g c m transaction sound s of going =
    let order = c.args.txn.now.id in
    let kept : length c.args.txn.now.writes ≡ 0 = omega (arith, c.if-len-eq0.true, c.len.ensures.count, ap length c.writes.ensures) in
    let none : transaction.writes ≡ [] = none-left transaction.writes (sym (ap length of.stands.writes) ∙ kept) in
    record {
      unrefused = in-active m order transaction (λ (t : Transaction). commit_refusal m t.writes) of.at going ∙ ap (commit_refusal m) none;
      replied = commit-reply m order transaction c.snapshot-snapshot.result of.at
          (ap (commit_number m.timeline transaction) none ∙ sym (c.snapshot-snapshot.ensures ∙ of.stands.snapshot));
      serves = subst (Serves g.R.RowSet c.release.new.self) (sym (done-none m order transaction of.at none))
          (c.release.ensures.commits m transaction sound s of going none);
    }

pub returns-then-self-clause-step : goal.returns-then-self-clause-step
returns-then-self-clause-step g c m transaction sound s of going =
    let kept : length c.args.txn.now.writes ≢ 0 = λ zero. omega (arith, zero, c.if-len-eq0.false, c.len.ensures.count, ap length c.writes.ensures) in
    let some : transaction.writes ≢ [] = some-writes c.args.txn.now.writes transaction.writes of.stands.writes kept in (
      in-active m c.args.txn.now.id transaction (λ (t : Transaction). commit_refusal m t.writes) of.at going
          ∙ commit-table m transaction.writes some ∙ stopped m.is_broken broken _ (sym s.is_broken ∙ c.if-self.true),
      s,
    )

pub returns-then-number-ge-GREATEST_NUMBER-clause-step :
    goal.returns-then-number-ge-GREATEST_NUMBER-clause-step
returns-then-number-ge-GREATEST_NUMBER-clause-step g c m transaction sound s of going =
    let kept : length c.args.txn.now.writes ≢ 0 = λ zero. omega (arith, zero, c.if-len-eq0.false, c.len.ensures.count, ap length c.writes.ensures) in
    let some : transaction.writes ≢ [] = some-writes c.args.txn.now.writes transaction.writes of.stands.writes kept in
    let number : c.args.self.now.view.number ≡ number_of m = view-number g.R.RowSet c.args.self.now.view m s.view in (
      in-active m c.args.txn.now.id transaction (λ (t : Transaction). commit_refusal m t.writes) of.at going
          ∙ commit-table m transaction.writes some
          ∙ passed m.is_broken broken _ _ (sym s.is_broken ∙ c.if-self.false)
          (stopped (is_spent m) spent _ (is-le greatest_number (number_of m)
          (omega (arith, c.if-number-ge-GREATEST_NUMBER.true, c.number.ensures.number, number)))),
      s,
    )

pub returns-then-charge-left-clause-step : goal.returns-then-charge-left-clause-step
returns-then-charge-left-clause-step g c m transaction sound s of going =
    let kept : length c.args.txn.now.writes ≢ 0 = λ zero. omega (arith, zero, c.if-len-eq0.false, c.len.ensures.count, ap length c.writes.ensures) in
    let some : transaction.writes ≢ [] = some-writes c.args.txn.now.writes transaction.writes of.stands.writes kept in
    let number : c.args.self.now.view.number ≡ number_of m = view-number g.R.RowSet c.args.self.now.view m s.view in
    let charge : c.charge-charge.result ≡ charge_of (normal_form transaction.writes) =
    c.charge-charge.ensures ∙ ap charge_of (c.writes-2.ensures ∙ of.stands.writes) in
    let left : c.left-left.result ≡ left_room m = c.left-left.ensures ∙ left-is g.R.RowSet c.args.self.now m s in (
      in-active m c.args.txn.now.id transaction (λ (t : Transaction). commit_refusal m t.writes) of.at going
          ∙ commit-table m transaction.writes some
          ∙ passed m.is_broken broken _ _ (sym s.is_broken ∙ c.if-self.false)
          (passed (is_spent m) spent _ _ (is-not_le greatest_number (number_of m)
          (omega (arith, c.if-number-ge-GREATEST_NUMBER.false, c.number.ensures.number, number)))
          (stopped _ _ _ (is-lt (left_room m) (charge_of (normal_form transaction.writes)) (omega (arith, c.if-charge-left.true, charge, left)))
          ∙ ap (λ (n : ℕ). let r : Option (Refusal ℕ) = Some (log_full n (left_room m)) in r) (sym charge)
          ∙ ap (λ (n : ℕ). let r : Option (Refusal ℕ) = Some (log_full c.charge-charge.result n) in r) (sym left))),
      s,
    )

pub returns-in-Ok-clause-step : goal.returns-in-Ok-clause-step
returns-in-Ok-clause-step g c m transaction sound s of going =
    let order = c.args.txn.now.id in
    let kept : length c.args.txn.now.writes ≢ 0 = λ zero. omega (arith, zero, c.if-len-eq0.false, c.len.ensures.count, ap length c.writes.ensures) in
    let some : transaction.writes ≢ [] = some-writes c.args.txn.now.writes transaction.writes of.stands.writes kept in
    let number : c.args.self.now.view.number ≡ number_of m = view-number g.R.RowSet c.args.self.now.view m s.view in
    let charge : c.charge-charge.result ≡ charge_of (normal_form transaction.writes) =
    c.charge-charge.ensures ∙ ap charge_of (c.writes-2.ensures ∙ of.stands.writes) in
    let left : c.left-left.result ≡ left_room m = c.left-left.ensures ∙ left-is g.R.RowSet c.args.self.now m s in
    record {
      unrefused =
          in-active m order transaction (λ (t : Transaction). commit_refusal m t.writes) of.at going
          ∙ commit-table m transaction.writes some
          ∙ passed m.is_broken broken _ _ (sym s.is_broken ∙ c.if-self.false)
          (passed (is_spent m) spent _ _ (is-not_le greatest_number (number_of m)
          (omega (arith, c.if-number-ge-GREATEST_NUMBER.false, c.number.ensures.number, number)))
          (passed _ _ _ _ (is-not_lt (left_room m) (charge_of (normal_form transaction.writes)) (omega (arith, c.if-charge-left.false, charge, left))) refl));
      replied = commit-reply m order transaction c.in-Ok.number of.at
          (number-some m transaction some ∙ sym (c.in-Ok.ensures.number ∙ ap (λ (n : ℕ). n + 1) number));
      serves = c.in-Ok.ensures.logged m transaction sound s of going some;
    }
