use Rattle.cn_tree.proofs.LayoutLemmas.{sets-same, changes-same, children-same}
use Rattle.cn_tree.proofs.laws.trees_are_layouts.Goals as goal

pub returns-clause-sets : goal.returns-clause-sets
returns-clause-sets g c = sets-same

pub returns-clause-changes : goal.returns-clause-changes
returns-clause-changes g c = changes-same

pub returns-clause-children : goal.returns-clause-children
returns-clause-children g c = children-same
