use Rattle.std.proofs.Common.{refl}
use Rattle.hse_rows.specs.machine.Calls as call
use Rattle.hse_rows.specs.machine.Replies.{accepted}
use Rattle.engine_state.specs.Says.{SaysEnded}
use Rattle.kvdb.specs.laws.Sessions.{session_grows}
use Rattle.kvdb.proofs.ServesLemmas.{lifts}
use Rattle.kvdb.proofs.SessionLemmas.{pending_aborted}
use Rattle.kvdb.proofs.engine.Kvdb.abort.Goals as goal

pub returns-clause-step : goal.returns-clause-step
returns-clause-step g c m transaction sound s is =
    lifts g.D.Device c.args.self.now _ (λ _. accepted) SaysEnded m (call.abort c.args.txn.now.id) c.abort.result (session_grows m (call.abort c.args.txn.now.id) tt)
    sound.limits.since_base sound.limits.until_now s
    (λ unrefused. pending_aborted m c.args.txn.now.id transaction is.at s.pending) refl refl refl refl (c.abort.ensures.step m transaction sound s.state is)
