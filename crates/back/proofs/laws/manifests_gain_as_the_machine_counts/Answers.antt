use Rattle.back.proofs.FoldLemmas.{manifest_gains}
use Rattle.back.proofs.laws.manifests_gain_as_the_machine_counts.Goals as goal

pub returns : goal.returns
returns c = manifest_gains
