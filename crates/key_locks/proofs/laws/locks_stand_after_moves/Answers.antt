use Rattle.key_locks.proofs.OtherMoves.{others-stand}
use Rattle.key_locks.proofs.StandMoves.{locked-stand}
use Rattle.key_locks.proofs.laws.locks_stand_after_moves.Goals as goal

pub returns-clause-locked : goal.returns-clause-locked
returns-clause-locked c = locked-stand c.normal_forms_overlap_the_same.ensures

pub returns-clause-others : goal.returns-clause-others
returns-clause-others c = others-stand c.normal_forms_overlap_the_same.ensures
