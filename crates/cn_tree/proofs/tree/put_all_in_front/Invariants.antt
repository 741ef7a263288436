use Rattle.std.proofs.Common.{◌≡◌}
use Rattle.std.specs.Vec.Iter.{into_iter_items}
use Rattle.cn_tree.specs.Tree.{AreNodes, in_fronts}
use Rattle.cn_tree.proofs.tree.put_all_in_front.Given as goal

-- the nodes so far with the rest of the sets are those with all
abbrev pub invariant-loop-path : goal.invariant-loop-path
invariant-loop-path g l = record {
  goes : (goal.iterator-loop-path g).can_next l.path-iterator;
  ends : (goal.iterator-loop-path g).is_finite l.path-iterator;
  known : AreNodes l.nodes.items;
  made :
      in_fronts l.nodes.items (into_iter_items l.path-iterator)
      ≡ in_fronts l.initial.nodes.items (into_iter_items l.initial.path-iterator);
}
