use Rattle.view.proofs.CommitLemmas.{layers-take-writes}
use Rattle.view.proofs.laws.layers_take_writes.Goals as goal

pub returns : goal.returns
returns c = layers-take-writes c.layers_take_rows.ensures
