use Rattle.view.proofs.ViewLemmas.{store-not_newer, store-under_more}
use Rattle.view.proofs.laws.newer_layers_go_over.Goals as goal

pub returns-clause-within : goal.returns-clause-within
returns-clause-within g c = λ view is_wanted store is found. store-not_newer g.R.RowSet.rows view is is_wanted store found

pub returns-clause-over : goal.returns-clause-over
returns-clause-over g c = λ view is_wanted store own is found newer. store-under_more g.R.RowSet.rows view is is_wanted store own found newer
