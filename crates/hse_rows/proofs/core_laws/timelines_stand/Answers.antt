use Rattle.hse_rows.proofs.StandLemmas.{opened_stands, step_stands}
use Rattle.hse_rows.proofs.core_laws.timelines_stand.Goals as goal

pub returns-clause-lives : goal.returns-clause-lives
returns-clause-lives c = λ stored good. opened_stands stored.base good

pub returns-clause-steps : goal.returns-clause-steps
returns-clause-steps c = step_stands
