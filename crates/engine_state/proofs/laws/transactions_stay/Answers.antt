use Rattle.engine_state.proofs.KeepLemmas.{calls_keep, others_keep, txn_stays}
use Rattle.engine_state.proofs.laws.transactions_stay.Goals as goal

pub returns-clause-stay : goal.returns-clause-stay
returns-clause-stay g c = txn_stays g.R.RowSet c.runs_are_isolated.ensures.moves

pub returns-clause-others : goal.returns-clause-others
returns-clause-others g c = others_keep g.R.RowSet c.runs_are_isolated.ensures.moves c.others_keep_timelines.ensures.timelines

pub returns-clause-calls : goal.returns-clause-calls
returns-clause-calls g c = calls_keep g.R.RowSet c.runs_are_isolated.ensures.moves c.others_keep_timelines.ensures.timelines
