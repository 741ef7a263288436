use Rattle.hse_rows.proofs.TurnLemmas.{syncs, creations, drops}
use Rattle.hse_rows.proofs.script_laws.turns_are_one_step.Goals as goal

pub returns-clause-syncs : goal.returns-clause-syncs
returns-clause-syncs c = syncs

pub returns-clause-creations : goal.returns-clause-creations
returns-clause-creations c = creations

pub returns-clause-drops : goal.returns-clause-drops
returns-clause-drops c = drops
