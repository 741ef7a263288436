use Rattle.hse_rows.proofs.CoreGoes.{others_keep, others_keep_cursors}
use Rattle.hse_rows.proofs.core_laws.others_keep_timelines.Goals as goal

pub returns-clause-timelines : goal.returns-clause-timelines
returns-clause-timelines c = others_keep

pub returns-clause-cursors : goal.returns-clause-cursors
returns-clause-cursors c = others_keep_cursors
