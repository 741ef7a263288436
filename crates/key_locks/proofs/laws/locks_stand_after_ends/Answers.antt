use Rattle.key_locks.proofs.StandMoves.{released-stand, committed-stand}
use Rattle.key_locks.proofs.laws.locks_stand_after_ends.Goals as goal

pub returns-clause-released : goal.returns-clause-released
returns-clause-released c = released-stand c.normal_forms_overlap_the_same.ensures

pub returns-clause-committed : goal.returns-clause-committed
returns-clause-committed c = committed-stand c.normal_forms_overlap_the_same.ensures
