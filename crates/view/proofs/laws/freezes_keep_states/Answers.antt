use Rattle.view.proofs.CommitLemmas.{freezes-keep}
use Rattle.view.proofs.laws.freezes_keep_states.Goals as goal

pub returns : goal.returns
returns g c = freezes-keep g.R.RowSet.rows
