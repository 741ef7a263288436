use Rattle.key_locks.proofs.HolderLemmas.{holders-tell}
use Rattle.key_locks.proofs.laws.first_holders_tell.Goals as goal

pub returns : goal.returns
returns c = holders-tell
