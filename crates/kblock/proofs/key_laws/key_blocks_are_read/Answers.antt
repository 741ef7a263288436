use Rattle.kblock.proofs.AgainLemmas.{block_again}
use Rattle.kblock.proofs.TakesLemmas.{block_takes}
use Rattle.kblock.proofs.key_laws.key_blocks_are_read.Goals as goal

pub returns-clause-read : goal.returns-clause-read
returns-clause-read c = λ last bytes pages fits e. block_takes last bytes pages fits e

pub returns-clause-spelled : goal.returns-clause-spelled
returns-clause-spelled c = λ last pages rest are. block_again last pages rest are
