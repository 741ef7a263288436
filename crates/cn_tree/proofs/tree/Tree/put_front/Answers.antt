use Rattle.std.proofs.Common.{◌∷◌, ◌∙◌, sym, subst}
use Rattle.cn_tree.specs.Tree.{AreNodes, sets_at}
use Rattle.cn_tree.proofs.NodeLemmas.{with_sets-nodes}
use Rattle.cn_tree.proofs.tree.Tree.put_front.Goals as goal

pub with_nodes-requires : goal.with_nodes-requires
with_nodes-requires g c =
    subst AreNodes (sym c.in_ok-put_set_in_front.ensures)
    (with_sets-nodes c.in_ok-nodes.nodes.items c.args.path.now
    (c.args.set ∷ sets_at c.in_ok-nodes.nodes.items c.args.path.now)
    (subst AreNodes (sym (c.in_ok-nodes.ensures ∙ c.list.ensures.value)) c.list.ensures.known))
