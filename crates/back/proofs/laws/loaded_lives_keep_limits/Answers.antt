use Rattle.back.proofs.LifeLemmas.{base_is_state, life_fits}
use Rattle.back.proofs.laws.loaded_lives_keep_limits.Goals as goal

pub returns-clause-limits : goal.returns-clause-limits
returns-clause-limits c = life_fits

pub returns-clause-base : goal.returns-clause-base
returns-clause-base c = base_is_state
