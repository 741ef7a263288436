use Rattle.std.proofs.Common.{refl}
use Rattle.hse_rows.specs.machine.Calls as call
use Rattle.hse_rows.specs.machine.Replies.{accepted}
use Rattle.engine_state.specs.Says.{SaysEnded}
use Rattle.turn_phases.proofs.HeldLemmas.{stepped}
use Rattle.turn_phases.proofs.phases.TurnPhases.abort.Goals as goal

pub returns-clause-step : goal.returns-clause-step
returns-clause-step g c m transaction s is =
    stepped g.D.Device (λ _. accepted) SaysEnded m (call.abort c.args.txn.now.id) c.abort.result
    c.args.self.now _ c.steps_keep_states_sound.ensures.calls tt refl s (c.abort.ensures.step m transaction s.sound s.engine is)
