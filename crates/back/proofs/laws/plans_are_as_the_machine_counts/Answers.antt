use Rattle.back.proofs.PlanLemmas.{full_counts, plan_counts, planned_room}
use Rattle.back.proofs.laws.plans_are_as_the_machine_counts.Goals as goal

pub returns-clause-room : goal.returns-clause-room
returns-clause-room c = planned_room

pub returns-clause-plan : goal.returns-clause-plan
returns-clause-plan c = λ manifest state entry after plan counted is. plan_counts manifest state entry after counted plan is

pub returns-clause-full : goal.returns-clause-full
returns-clause-full c = λ manifest state entry after need room counted is.
    (full_counts manifest state entry after counted is.0 is.1, is.2, is.3)
