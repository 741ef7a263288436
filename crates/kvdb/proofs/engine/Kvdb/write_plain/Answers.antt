use Rattle.std.proofs.Common.{refl}
use Rattle.hse_rows.specs.writes.Change.{change_of}
use Rattle.hse_rows.specs.machine.Calls as call
use Rattle.hse_rows.specs.machine.Replies.{ok}
use Rattle.engine_state.specs.Says.{SaysWrite}
use Rattle.kvdb.specs.laws.Sessions.{session_grows}
use Rattle.kvdb.proofs.ServesLemmas.{lifts}
use Rattle.kvdb.proofs.SessionLemmas.{pending_plain}
use Rattle.kvdb.proofs.engine.Kvdb.write_plain.Goals as goal

pub returns-clause-step : goal.returns-clause-step
returns-clause-step g c m sound s =
    let what = call.write_by call.outside c.args.store.now (change_of c.args.change) in
    lifts g.D.Device c.args.self.now _ ok SaysWrite m what c.write_plain.result (session_grows m what tt)
    sound.limits.since_base sound.limits.until_now s
    (λ unrefused. pending_plain c.normal_forms_are_in_order.ensures m c.args.store.now (change_of c.args.change) sound unrefused s.pending)
    refl refl refl refl (c.write_plain.ensures m sound s.state)
