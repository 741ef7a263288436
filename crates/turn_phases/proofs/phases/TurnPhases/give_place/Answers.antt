use Rattle.std.proofs.Common.{refl}
use Rattle.hse_rows.specs.machine.Calls as call
use Rattle.turn_phases.proofs.HeldLemmas.{session_done}
use Rattle.turn_phases.proofs.phases.TurnPhases.give_place.Goals as goal

pub returns-clause-step : goal.returns-clause-step
returns-clause-step g c m s =
    session_done g.D.Device m call.give_place c.args.self.now _ c.steps_keep_states_sound.ensures.calls tt refl s refl
    (c.give_place.ensures.step m s.sound s.engine)
