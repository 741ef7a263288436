use Rattle.hse_rows.specs.laws.Folding.{folded-number, fold-last, fold-stays}
use Rattle.hse_rows.proofs.laws.snapshots_stay.Goals as goal

pub returns-clause-last : goal.returns-clause-last
returns-clause-last c = λ base events. (folded-number base events, fold-last base events)

pub returns-clause-stay : goal.returns-clause-stay
returns-clause-stay c = fold-stays
