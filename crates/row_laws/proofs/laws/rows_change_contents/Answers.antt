use Rattle.row_laws.proofs.MeaningLemmas.{in_order-contents}
use Rattle.row_laws.proofs.StepLemmas.{with_row-changes}
use Rattle.row_laws.proofs.laws.rows_change_contents.Goals as goal

pub returns-clause-step : goal.returns-clause-step
returns-clause-step c = with_row-changes

pub returns-clause-in_order : goal.returns-clause-in_order
returns-clause-in_order c = in_order-contents
