use Rattle.std.proofs.Common.{refl}
use Rattle.hse_rows.specs.machine.Calls as call
use Rattle.hse_rows.specs.machine.Replies.{ok}
use Rattle.engine_state.specs.Says.{SaysBegin}
use Rattle.lives.proofs.ServeLemmas.{session_steps}
use Rattle.lives.proofs.run.Lives.begin.Goals as goal

pub returns-clause-step : goal.returns-clause-step
returns-clause-step g c s l =
    session_steps g.D.Device (λ txn. ok txn.view.number) SaysBegin s call.begin c.begin.result c.args.self.now _ tt refl refl c.begin.ensures.device l
    (c.begin.ensures.step s.machine l.phases)
