use Rattle.hse_rows.proofs.CoreAnswers.{step_leads, refusal_stays}
use Rattle.hse_rows.proofs.core_laws.answers_lead_one_way.Goals as goal

pub returns-clause-one_way : goal.returns-clause-one_way
returns-clause-one_way c = step_leads

pub returns-clause-refused : goal.returns-clause-refused
returns-clause-refused c = refusal_stays
