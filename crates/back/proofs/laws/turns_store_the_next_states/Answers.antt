use Rattle.back.specs.Steps.{with_commits}
use Rattle.back.proofs.FoldLemmas.{commits_fold, creation_happens, drop_happens, event_back, has_next}
use Rattle.back.proofs.laws.turns_store_the_next_states.Goals as goal

pub returns-clause-commits : goal.returns-clause-commits
returns-clause-commits c = λ image loaded commits says. commits_fold image loaded commits says

pub returns-clause-event : goal.returns-clause-event
returns-clause-event c = event_back

pub returns-clause-creation : goal.returns-clause-creation
returns-clause-creation c = λ image loaded commits store says may. creation_happens (with_commits loaded commits) store (has_next image loaded commits says may)

pub returns-clause-drop : goal.returns-clause-drop
returns-clause-drop c = λ image loaded commits number id says may. drop_happens (with_commits loaded commits) number id (has_next image loaded commits says may)
