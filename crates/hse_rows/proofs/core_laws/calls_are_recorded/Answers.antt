use Rattle.hse_rows.proofs.CoreKeepsRecords.{life_recorded, step_records, runs_recorded}
use Rattle.hse_rows.proofs.core_laws.calls_are_recorded.Goals as goal

pub returns-clause-lives : goal.returns-clause-lives
returns-clause-lives c = life_recorded

pub returns-clause-steps : goal.returns-clause-steps
returns-clause-steps c = step_records

pub returns-clause-runs : goal.returns-clause-runs
returns-clause-runs c = runs_recorded
