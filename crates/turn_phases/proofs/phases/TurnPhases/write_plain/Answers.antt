use Rattle.std.proofs.Common.{refl}
use Rattle.hse_rows.specs.machine.Calls as call
use Rattle.hse_rows.specs.machine.Replies.{ok}
use Rattle.hse_rows.specs.writes.Change.{change_of}
use Rattle.engine_state.specs.Says.{SaysWrite}
use Rattle.turn_phases.proofs.HeldLemmas.{stepped}
use Rattle.turn_phases.proofs.phases.TurnPhases.write_plain.Goals as goal

pub returns-clause-step : goal.returns-clause-step
returns-clause-step g c m s =
    stepped g.D.Device ok SaysWrite m (call.write_by call.outside c.args.store.now (change_of c.args.change)) c.write_plain.result
    c.args.self.now _ c.steps_keep_states_sound.ensures.calls tt refl s (c.write_plain.ensures.step m s.sound s.engine)
