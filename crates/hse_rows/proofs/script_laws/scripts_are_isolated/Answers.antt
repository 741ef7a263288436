use Rattle.hse_rows.proofs.ScriptGoes.{step_isolated, scripts_isolated}
use Rattle.hse_rows.proofs.script_laws.scripts_are_isolated.Goals as goal

pub returns-clause-lines : goal.returns-clause-lines
returns-clause-lines c = step_isolated

pub returns-clause-isolated : goal.returns-clause-isolated
returns-clause-isolated c = scripts_isolated
