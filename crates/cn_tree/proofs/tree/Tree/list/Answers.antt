use Rattle.std.proofs.Common.{◌∙◌, sym, ap, subst}
use Rattle.std.specs.Arc.{arc_value}
use Rattle.cn_tree.specs.Tree.{AreNodes, nodes_in}
use Rattle.cn_tree.proofs.NodeLemmas.{none-nodes}
use Rattle.cn_tree.proofs.tree.Tree.list.Goals as goal

pub returns-in-None-clause-known : goal.returns-in-None-clause-known
returns-in-None-clause-known g c =
    let here = ap (λ o. nodes_in arc_value o) c.in-None.is in
    subst AreNodes (sym here ∙ ap (λ t. t.nodes) c.self.view_is) none-nodes
