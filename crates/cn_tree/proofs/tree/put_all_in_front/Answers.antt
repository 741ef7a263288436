use Rattle.std.proofs.Common.{◌∷◌, sym, ap, subst, ◌∙◌}
use Rattle.std.specs.Vec.Iter.{into_iter_items}
use Rattle.cn_tree.specs.Tree.{AreNodes, sets_at, in_fronts}
use Rattle.cn_tree.proofs.NodeLemmas.{with_sets-nodes}
use Rattle.cn_tree.proofs.tree.put_all_in_front.Goals as goal

pub loop-path-preserved : goal.loop-path-preserved
loop-path-preserved g c = record {
  goes = tt;
  ends = tt;
  known = subst AreNodes (sym c.in_ok-put_set_in_front.ensures)
      (with_sets-nodes c.loop-path.nodes.items c.in-Some.path
      (c.in-Some.set ∷ sets_at c.loop-path.nodes.items c.in-Some.path) c.loop-path.invariant.known);
  made =
      ap (λ nodes. in_fronts nodes (into_iter_items c.next.new.self)) c.in_ok-put_set_in_front.ensures
      ∙ ap (λ rest. in_fronts c.loop-path.nodes.items rest) (sym c.in-Some.ensures.steps.0)
      ∙ c.loop-path.invariant.made;
}
