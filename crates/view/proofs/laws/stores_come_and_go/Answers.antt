use Rattle.view.proofs.StoreLemmas.{stores-come_and_go}
use Rattle.view.proofs.laws.stores_come_and_go.Goals as goal

pub returns : goal.returns
returns g c = stores-come_and_go g.R.RowSet.rows
