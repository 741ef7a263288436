use Rattle.std.proofs.Common.{refl}
use Rattle.hse_rows.specs.machine.Calls as call
use Rattle.hse_rows.specs.machine.Replies.{accepted}
use Rattle.hse_rows.specs.writes.Change.{change_of}
use Rattle.engine_state.specs.Says.{SaysWrite}
use Rattle.lives.proofs.ServeLemmas.{session_steps}
use Rattle.lives.proofs.run.Lives.write.Goals as goal

pub returns-clause-step : goal.returns-clause-step
returns-clause-step g c s transaction l is =
    session_steps g.D.Device (λ _. accepted) SaysWrite s (call.write_by (call.inside c.args.txn.now.id) c.args.store.now (change_of c.args.change)) c.write.result
    c.args.self.now _ tt refl refl c.write.ensures.device l (c.write.ensures.step s.machine transaction l.phases is)
