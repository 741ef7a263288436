use Rattle.view.proofs.FrontLemmas.{layers-take}
use Rattle.view.proofs.laws.layers_take_rows.Goals as goal

pub returns : goal.returns
returns c = layers-take c.keys_hold_newest_rows.ensures c.stores_take_their_rows.ensures.others
