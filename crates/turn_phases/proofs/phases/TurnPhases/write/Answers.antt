use Rattle.std.proofs.Common.{refl}
use Rattle.hse_rows.specs.machine.Calls as call
use Rattle.hse_rows.specs.machine.Replies.{accepted}
use Rattle.hse_rows.specs.writes.Change.{change_of}
use Rattle.engine_state.specs.Says.{SaysWrite}
use Rattle.turn_phases.proofs.HeldLemmas.{stepped}
use Rattle.turn_phases.proofs.phases.TurnPhases.write.Goals as goal

pub returns-clause-step : goal.returns-clause-step
returns-clause-step g c m transaction s is =
    stepped g.D.Device (λ _. accepted) SaysWrite m (call.write_by (call.inside c.args.txn.now.id) c.args.store.now (change_of c.args.change)) c.write.result
    c.args.self.now _ c.steps_keep_states_sound.ensures.calls tt refl s (c.write.ensures.step m transaction s.sound s.engine is)
