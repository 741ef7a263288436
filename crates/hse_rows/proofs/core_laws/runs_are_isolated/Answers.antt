use Rattle.hse_rows.specs.machine.Replies.{canceled_held, canceled_since}
use Rattle.hse_rows.proofs.CoreGoes.{step_goes, runs_are_isolated, commit_not_canceled}
use Rattle.hse_rows.proofs.core_laws.runs_are_isolated.Goals as goal

pub returns-clause-moves : goal.returns-clause-moves
returns-clause-moves c = step_goes

pub returns-clause-isolated : goal.returns-clause-isolated
returns-clause-isolated c = runs_are_isolated

pub returns-clause-canceled : goal.returns-clause-canceled
returns-clause-canceled c = λ found old new order number.
    (λ step. commit_not_canceled old order (canceled_held number) step.0 tt, λ step. commit_not_canceled old order (canceled_since number) step.0 tt)
