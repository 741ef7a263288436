use Rattle.std.proofs.Common.{refl}
use Rattle.hse_rows.specs.writes.Change.{change_of}
use Rattle.hse_rows.specs.machine.Calls as call
use Rattle.hse_rows.specs.machine.Replies.{accepted}
use Rattle.engine_state.specs.Says.{SaysWrite}
use Rattle.kvdb.specs.laws.Sessions.{session_grows}
use Rattle.kvdb.proofs.ServesLemmas.{lifts}
use Rattle.kvdb.proofs.InsideLemmas.{pending_inside}
use Rattle.kvdb.proofs.engine.Kvdb.write.Goals as goal

pub returns-clause-step : goal.returns-clause-step
returns-clause-step g c m transaction sound s is =
    let order = c.args.txn.now.id in
    let what = call.write_by (call.inside order) c.args.store.now (change_of c.args.change) in
    lifts g.D.Device c.args.self.now _ (λ _. accepted) SaysWrite m what c.write.result (session_grows m what tt)
    sound.limits.since_base sound.limits.until_now s
    (λ unrefused. pending_inside m order c.args.store.now (change_of c.args.change) transaction sound is.at unrefused s.pending)
    refl refl refl refl (c.write.ensures.step m transaction sound s.state is)
