use Rattle.std.proofs.Common.{◌+◌, refl}
use Rattle.hse_rows.specs.machine.Calls as call
use Rattle.hse_rows.specs.machine.Replies.{accepted}
use Rattle.engine_state.specs.Says.{SaysFull}
use Rattle.kvdb.specs.laws.Sessions.{session_grows}
use Rattle.kvdb.proofs.ServesLemmas.{lifts}
use Rattle.kvdb.proofs.SessionLemmas.{pending_placed}
use Rattle.kvdb.proofs.engine.Kvdb.cursor_place.Goals as goal

pub returns-clause-step : goal.returns-clause-step
returns-clause-step g c m sound s =
    lifts g.D.Device c.args.self.now _ (λ _. accepted) SaysFull m call.take_place c.cursor_place.result (session_grows m call.take_place tt)
    sound.limits.since_base sound.limits.until_now s
    (λ unrefused. pending_placed m (m.cursors + 1) s.pending) refl refl refl refl (c.cursor_place.ensures m s.state)
