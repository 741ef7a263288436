use Rattle.std.proofs.Common.{refl}
use Rattle.hse_rows.specs.machine.Calls as call
use Rattle.hse_rows.specs.machine.Replies.{ok}
use Rattle.engine_state.specs.Says.{SaysCommit}
use Rattle.turn_phases.proofs.HeldLemmas.{stepped}
use Rattle.turn_phases.proofs.phases.TurnPhases.commit.Goals as goal

pub returns-clause-step : goal.returns-clause-step
returns-clause-step g c m transaction s is =
    stepped g.D.Device ok SaysCommit m (call.commit c.args.txn.now.id) c.commit.result
    c.args.self.now _ c.steps_keep_states_sound.ensures.calls tt refl s (c.commit.ensures.step m transaction s.sound s.engine is)
