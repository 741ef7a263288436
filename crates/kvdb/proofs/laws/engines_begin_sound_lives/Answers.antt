use Rattle.kvdb.proofs.LifeLemmas.{life_sound, opening_sound}
use Rattle.kvdb.proofs.laws.engines_begin_sound_lives.Goals as goal

pub returns-clause-openings : goal.returns-clause-openings
returns-clause-openings g c =
    opening_sound c.steps_keep_states_sound.ensures.lives c.loaded_lives_keep_limits.ensures.limits c.loaded_lives_keep_limits.ensures.base g.D.Device
    c.steps_keep_states_sound.ensures.new

pub returns-clause-lives : goal.returns-clause-lives
returns-clause-lives g c =
    life_sound c.steps_keep_states_sound.ensures.lives c.loaded_lives_keep_limits.ensures.limits c.loaded_lives_keep_limits.ensures.base g.D.Device
