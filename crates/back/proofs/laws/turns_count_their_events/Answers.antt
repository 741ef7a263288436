use Rattle.back.specs.Steps.{with_commits}
use Rattle.back.proofs.FoldLemmas.{has_next, number_more, number_with}
use Rattle.back.proofs.laws.turns_count_their_events.Goals as goal

pub returns-clause-commits : goal.returns-clause-commits
returns-clause-commits c = number_more

pub returns-clause-entry : goal.returns-clause-entry
returns-clause-entry c = λ image loaded commits entry says may. number_with (with_commits loaded commits) entry (has_next image loaded commits says may)
