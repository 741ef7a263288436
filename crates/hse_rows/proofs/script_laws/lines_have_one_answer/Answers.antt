use Rattle.hse_rows.proofs.LineAnswers.{line_gets, answer_is}
use Rattle.hse_rows.proofs.script_laws.lines_have_one_answer.Goals as goal

pub returns-clause-answered : goal.returns-clause-answered
returns-clause-answered c = line_gets

pub returns-clause-one : goal.returns-clause-one
returns-clause-one c = answer_is
