use Rattle.std.proofs.Common.{refl}
use Rattle.turn_phases.proofs.ReopenLemmas.{reopened, leaves_again}
use Rattle.turn_phases.proofs.phases.TurnPhases.reopen.Goals as goal

pub returns-clause-reopens : goal.returns-clause-reopens
returns-clause-reopens g c m s =
    reopened g.D.Device m c.reopen.result c.args.self.now _ c.engines_begin_sound_lives.ensures.lives c.steps_keep_states_sound.ensures.failures refl s
    (c.reopen.ensures.reopens m s.sound s.engine)

pub returns-clause-crash : goal.returns-clause-crash
returns-clause-crash g c m s told =
    leaves_again g.D.Device m c.args.self.now _ c.reopen.result _ refl s (c.reopen.ensures.reopens m s.sound s.engine) c.reopen.ensures.device
    (c.reopen.ensures.crash m s.sound s.engine told)
