use Rattle.hse_rows.proofs.JobLemmas.{numbered_below}
use Rattle.hse_rows.proofs.LineSteps.{step_calls, step_phases}
use Rattle.hse_rows.proofs.script_laws.lines_are_calls.Goals as goal

pub returns-clause-calls : goal.returns-clause-calls
returns-clause-calls c = λ found old new line answer numbered step. step_calls found old (numbered_below old.core.jobs old.core.picked numbered) new line answer step

pub returns-clause-phases : goal.returns-clause-phases
returns-clause-phases c = λ found old new line answer numbered none full step. step_phases found old (numbered_below old.core.jobs old.core.picked numbered) new line answer none full step
