use Rattle.hse_rows.proofs.CoreAnswers.{answer_is, call_gets}
use Rattle.hse_rows.proofs.core_laws.calls_have_one_answer.Goals as goal

pub returns-clause-answered : goal.returns-clause-answered
returns-clause-answered c = call_gets

pub returns-clause-one : goal.returns-clause-one
returns-clause-one c = answer_is
