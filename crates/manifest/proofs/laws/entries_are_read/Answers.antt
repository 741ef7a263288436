use Rattle.manifest.specs.laws.Again.{entry_again}
use Rattle.manifest.proofs.laws.entries_are_read.Goals as goal

pub returns : goal.returns
returns c = entry_again
