use Rattle.std.proofs.Common.{refl}
use Rattle.hse_rows.specs.machine.Calls as call
use Rattle.hse_rows.specs.machine.Replies.{ok}
use Rattle.engine_state.specs.Says.{SaysBegin}
use Rattle.kvdb.specs.laws.Sessions.{session_grows}
use Rattle.kvdb.proofs.ServesLemmas.{lifts}
use Rattle.kvdb.proofs.SessionLemmas.{pending_begun}
use Rattle.kvdb.proofs.engine.Kvdb.begin.Goals as goal

pub returns-clause-step : goal.returns-clause-step
returns-clause-step g c m sound s =
    lifts g.D.Device c.args.self.now _ (λ txn. ok txn.view.number) SaysBegin m call.begin c.begin.result (session_grows m call.begin tt) sound.limits.since_base sound.limits.until_now s
    (λ unrefused. pending_begun m s.pending) refl refl refl refl (c.begin.ensures.step m sound s.state)
