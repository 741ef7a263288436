use Rattle.std.proofs.Common.{refl}
use Rattle.hse_rows.specs.machine.Calls as call
use Rattle.hse_rows.specs.machine.Replies.{accepted}
use Rattle.engine_state.specs.Says.{SaysEnded}
use Rattle.lives.proofs.ServeLemmas.{session_steps}
use Rattle.lives.proofs.run.Lives.abort.Goals as goal

pub returns-clause-step : goal.returns-clause-step
returns-clause-step g c s transaction l is =
    session_steps g.D.Device (λ _. accepted) SaysEnded s (call.abort c.args.txn.now.id) c.abort.result
    c.args.self.now _ tt refl refl c.abort.ensures.device l (c.abort.ensures.step s.machine transaction l.phases is)
