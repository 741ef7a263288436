use Rattle.hse_fields.specs.laws.PrefixTexts.{prefix_block_takes, prefix_block_again}
use Rattle.hse_fields.proofs.block_laws.prefix_blocks_are_read.Goals as goal

pub returns-clause-read : goal.returns-clause-read
returns-clause-read c = λ last bytes entries fits e. prefix_block_takes last bytes entries fits e

pub returns-clause-spelled : goal.returns-clause-spelled
returns-clause-spelled c = λ last entries rest formed. prefix_block_again last entries rest formed
