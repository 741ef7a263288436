use Rattle.std.proofs.Common.{refl}
use Rattle.turn_phases.proofs.ReopenLemmas.{opened}
use Rattle.turn_phases.proofs.phases.TurnPhases.start.Goals as goal

pub returns-in-Ok-clause-opens : goal.returns-in-Ok-clause-opens
returns-in-Ok-clause-opens g c told =
    opened g.D.Device (g.D.Device.seen c.args.disk) _ c.engines_begin_sound_lives.ensures.lives told refl (c.in-Ok.ensures.opens told)
