use Rattle.std.proofs.Common.{◌-◌, refl}
use Rattle.hse_rows.specs.machine.Calls as call
use Rattle.hse_rows.specs.machine.CoreDone.{done}
use Rattle.kvdb.specs.laws.Sessions.{session_grows}
use Rattle.kvdb.proofs.ServesLemmas.{serves_session}
use Rattle.kvdb.proofs.SessionLemmas.{pending_placed}
use Rattle.kvdb.proofs.engine.Kvdb.give_place.Goals as goal

pub returns-clause-step : goal.returns-clause-step
returns-clause-step g c m sound s =
    serves_session g.D.Device c.args.self.now _ m (done m call.give_place) (session_grows m call.give_place tt)
    sound.limits.since_base sound.limits.until_now s (c.give_place.ensures m s.state) (pending_placed m (m.cursors - 1) s.pending) refl refl refl refl
