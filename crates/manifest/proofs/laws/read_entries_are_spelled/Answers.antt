use Rattle.manifest.proofs.SpelledLemmas.{payload_takes}
use Rattle.manifest.proofs.laws.read_entries_are_spelled.Goals as goal

pub returns : goal.returns
returns c = payload_takes
