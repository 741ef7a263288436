use Rattle.row_laws.proofs.NewestLemmas.{newest-mean}
use Rattle.row_laws.proofs.laws.newest_rows_mean_the_same.Goals as goal

pub returns : goal.returns
returns c = newest-mean
