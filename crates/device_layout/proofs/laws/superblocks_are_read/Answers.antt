use Rattle.device_layout.specs.laws.Superblocks.{spelled_is_read, read_is_spelled}
use Rattle.device_layout.proofs.laws.superblocks_are_read.Goals as goal

pub returns-clause-spelled : goal.returns-clause-spelled
returns-clause-spelled c = spelled_is_read

pub returns-clause-read : goal.returns-clause-read
returns-clause-read c = read_is_spelled
