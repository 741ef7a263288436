use Rattle.hse_rows.proofs.LineAnswers.{line_leads, refusal_leaves, memory_leaves}
use Rattle.hse_rows.proofs.script_laws.lines_lead_one_way.Goals as goal

pub returns-clause-one_way : goal.returns-clause-one_way
returns-clause-one_way c = line_leads

pub returns-clause-refused : goal.returns-clause-refused
returns-clause-refused c = refusal_leaves

pub returns-clause-no_memory : goal.returns-clause-no_memory
returns-clause-no_memory c = memory_leaves
