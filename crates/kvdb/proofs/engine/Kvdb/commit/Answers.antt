use Rattle.std.proofs.Common.{refl}
use Rattle.hse_rows.specs.machine.Calls as call
use Rattle.hse_rows.specs.machine.Replies.{ok}
use Rattle.engine_state.specs.Says.{SaysCommit}
use Rattle.kvdb.specs.laws.Sessions.{session_grows}
use Rattle.kvdb.proofs.ServesLemmas.{lifts}
use Rattle.kvdb.proofs.SessionLemmas.{pending_commit, going-has, Names, Written}
use Rattle.kvdb.proofs.engine.Kvdb.commit.Goals as goal

pub returns-clause-step : goal.returns-clause-step
returns-clause-step g c m transaction sound s is =
    lifts g.D.Device c.args.self.now _ ok SaysCommit m (call.commit c.args.txn.now.id) c.commit.result (session_grows m (call.commit c.args.txn.now.id) tt)
    sound.limits.since_base sound.limits.until_now s
    (λ unrefused. pending_commit c.normal_forms_are_in_order.ensures m sound.limits.since_base sound.limits.until_now s.pending
    c.args.txn.now.id transaction is.at
    (going-has (Written m) m c.args.txn.now.id transaction is.at unrefused s.pending.written)
    (going-has (Names s.pending.named) m c.args.txn.now.id transaction is.at unrefused s.pending.written_named))
    refl refl refl refl (c.commit.ensures.step m transaction sound s.state is)
