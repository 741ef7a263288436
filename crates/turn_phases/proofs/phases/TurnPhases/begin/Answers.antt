use Rattle.std.proofs.Common.{refl}
use Rattle.hse_rows.specs.machine.Calls as call
use Rattle.hse_rows.specs.machine.Replies.{ok}
use Rattle.engine_state.specs.Says.{SaysBegin}
use Rattle.turn_phases.proofs.HeldLemmas.{stepped}
use Rattle.turn_phases.proofs.phases.TurnPhases.begin.Goals as goal

pub returns-clause-step : goal.returns-clause-step
returns-clause-step g c m s =
    stepped g.D.Device (λ txn. ok txn.view.number) SaysBegin m call.begin c.begin.result c.args.self.now _ c.steps_keep_states_sound.ensures.calls tt refl s
    (c.begin.ensures.step m s.sound s.engine)
