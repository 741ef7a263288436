use Rattle.view.proofs.CommitLemmas.{commits-happen}
use Rattle.view.proofs.laws.commits_happen.Goals as goal

pub returns : goal.returns
returns g c = commits-happen g.R.RowSet.rows c.layers_take_rows.ensures c.normal_forms_are_in_order.ensures
