use Rattle.key_locks.proofs.StandLemmas.{empty-stand}
use Rattle.key_locks.proofs.laws.empty_locks_stand.Goals as goal

pub returns : goal.returns
returns c = empty-stand
