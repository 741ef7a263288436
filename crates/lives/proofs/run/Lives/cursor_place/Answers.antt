use Rattle.std.proofs.Common.{refl}
use Rattle.hse_rows.specs.machine.Calls as call
use Rattle.hse_rows.specs.machine.Replies.{accepted}
use Rattle.engine_state.specs.Says.{SaysFull}
use Rattle.lives.proofs.ServeLemmas.{session_steps}
use Rattle.lives.proofs.run.Lives.cursor_place.Goals as goal

pub returns-clause-step : goal.returns-clause-step
returns-clause-step g c s l =
    session_steps g.D.Device (λ _. accepted) SaysFull s call.take_place c.cursor_place.result
    c.args.self.now _ tt refl refl c.cursor_place.ensures.device l (c.cursor_place.ensures.step s.machine l.phases)
