use Rattle.engine_state.proofs.KeepLemmas.{done_sound, failing_sound, life_sound, new_sound, refused_sound, step_sound}
use Rattle.engine_state.proofs.laws.steps_keep_states_sound.Goals as goal

pub returns-clause-lives : goal.returns-clause-lives
returns-clause-lives c = life_sound c.timelines_stand.ensures.lives

pub returns-clause-new : goal.returns-clause-new
returns-clause-new c = new_sound c.timelines_stand.ensures.lives

pub returns-clause-steps : goal.returns-clause-steps
returns-clause-steps c = step_sound c.calls_keep_limits.ensures.steps c.timelines_stand.ensures.steps

pub returns-clause-calls : goal.returns-clause-calls
returns-clause-calls c = done_sound c.calls_keep_limits.ensures.steps c.timelines_stand.ensures.steps

pub returns-clause-refusals : goal.returns-clause-refusals
returns-clause-refusals c = refused_sound c.calls_keep_limits.ensures.steps c.timelines_stand.ensures.steps

pub returns-clause-failures : goal.returns-clause-failures
returns-clause-failures c = failing_sound
