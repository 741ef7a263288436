use Rattle.key_locks.proofs.ConflictLemmas.{answers-conflict}
use Rattle.key_locks.proofs.laws.locks_answer_the_conflict.Goals as goal

pub returns : goal.returns
returns c = answers-conflict c.conflicts_are_of_transactions.ensures.conflicts
