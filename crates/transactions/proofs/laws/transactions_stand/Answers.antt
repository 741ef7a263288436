use Rattle.transactions.proofs.StandLemmas.{reads-read, new-stand, stages-stand, ends-stand}
use Rattle.transactions.proofs.laws.transactions_stand.Goals as goal

pub returns-clause-reads : goal.returns-clause-reads
returns-clause-reads g c = reads-read g.row.R.Denot g.R.RowSet.rows c.normal_forms_do_the_same.ensures

pub returns-clause-begins : goal.returns-clause-begins
returns-clause-begins g c = new-stand g.row.R.Denot g.R.RowSet.rows

pub returns-clause-stages : goal.returns-clause-stages
returns-clause-stages g c = stages-stand g.row.R.Denot g.R.RowSet.rows

pub returns-clause-ends : goal.returns-clause-ends
returns-clause-ends g c = ends-stand g.row.R.Denot g.R.RowSet.rows
