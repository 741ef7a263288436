use Rattle.hse_rows.proofs.IsolationLemmas.{goes_isolated, are_isolated, reached_isolated}
use Rattle.hse_rows.proofs.laws.snapshots_are_isolated.Goals as goal

pub returns-clause-moves : goal.returns-clause-moves
returns-clause-moves c = goes_isolated

pub returns-clause-isolated : goal.returns-clause-isolated
returns-clause-isolated c = λ m reached. are_isolated m (reached_isolated m reached)
