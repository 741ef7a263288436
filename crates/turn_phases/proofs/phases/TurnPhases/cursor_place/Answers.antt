use Rattle.std.proofs.Common.{refl}
use Rattle.hse_rows.specs.machine.Calls as call
use Rattle.hse_rows.specs.machine.Replies.{accepted}
use Rattle.engine_state.specs.Says.{SaysFull}
use Rattle.turn_phases.proofs.HeldLemmas.{stepped}
use Rattle.turn_phases.proofs.phases.TurnPhases.cursor_place.Goals as goal

pub returns-clause-step : goal.returns-clause-step
returns-clause-step g c m s =
    stepped g.D.Device (λ _. accepted) SaysFull m call.take_place c.cursor_place.result
    c.args.self.now _ c.steps_keep_states_sound.ensures.calls tt refl s (c.cursor_place.ensures.step m s.sound s.engine)
