use Rattle.view.proofs.SourceLemmas.{sources-rows, sources-fall}
use Rattle.view.proofs.laws.stores_are_merged.Goals as goal

pub returns-clause-rows : goal.returns-clause-rows
returns-clause-rows g c = sources-rows g.R.RowSet.rows

pub returns-clause-falls : goal.returns-clause-falls
returns-clause-falls g c = sources-fall g.R.RowSet.rows c.first_sources_decide.ensures.own
