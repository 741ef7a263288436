use Rattle.hse_fields.specs.laws.ValueTexts.{value_block_takes, value_block_again}
use Rattle.hse_fields.proofs.block_laws.value_blocks_are_read.Goals as goal

pub returns-clause-read : goal.returns-clause-read
returns-clause-read c = λ most bytes values fits e. value_block_takes most bytes values fits e

pub returns-clause-spelled : goal.returns-clause-spelled
returns-clause-spelled c = λ most values rest formed. value_block_again most values rest formed
