use Rattle.cn_tree.proofs.WishLemmas.{pick-wish}
use Rattle.cn_tree.proofs.laws.picks_are_wishes.Goals as goal

pub returns : goal.returns
returns g c m store blocks nodes live is = pick-wish g.R.RowSet.rows blocks m store nodes live is
