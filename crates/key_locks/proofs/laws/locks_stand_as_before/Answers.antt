use Rattle.key_locks.proofs.StandLemmas.{unchanged-stand, pruned-stand, undone-stand}
use Rattle.key_locks.proofs.laws.locks_stand_as_before.Goals as goal

pub returns-clause-pruned : goal.returns-clause-pruned
returns-clause-pruned c = pruned-stand

pub returns-clause-same : goal.returns-clause-same
returns-clause-same c = unchanged-stand

pub returns-clause-undone : goal.returns-clause-undone
returns-clause-undone c = undone-stand
