use Rattle.std.proofs.Common.{◌∙◌, sym, subst}
use Rattle.cn_tree.specs.Tree.{AreNodes}
use Rattle.cn_tree.proofs.NodeLemmas.{with_sets-nodes}
use Rattle.cn_tree.proofs.tree.Tree.without_run.Goals as goal

pub returns-clause-known : goal.returns-clause-known
returns-clause-known g c =
    subst AreNodes (sym c.in_ok-put_sets.ensures)
    (with_sets-nodes c.in_ok-twins.twins.items c.args.path.now c.in_ok-sets.sets.items
    (subst AreNodes (sym (c.in_ok-twins.ensures ∙ c.list-nodes.ensures.value)) c.list-nodes.ensures.known))
