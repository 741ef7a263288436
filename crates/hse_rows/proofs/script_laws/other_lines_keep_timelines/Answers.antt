use Rattle.hse_rows.proofs.LineKeeps.{lines_keep_timelines, lines_keep_names}
use Rattle.hse_rows.proofs.script_laws.other_lines_keep_timelines.Goals as goal

pub returns-clause-timelines : goal.returns-clause-timelines
returns-clause-timelines c = lines_keep_timelines

pub returns-clause-names : goal.returns-clause-names
returns-clause-names c = lines_keep_names
