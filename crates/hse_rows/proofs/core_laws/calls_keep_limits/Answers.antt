use Rattle.hse_rows.proofs.CoreLimits.{step_keeps_limits, runs_keep_limits}
use Rattle.hse_rows.proofs.core_laws.calls_keep_limits.Goals as goal

pub returns-clause-steps : goal.returns-clause-steps
returns-clause-steps c = step_keeps_limits

pub returns-clause-runs : goal.returns-clause-runs
returns-clause-runs c = runs_keep_limits
