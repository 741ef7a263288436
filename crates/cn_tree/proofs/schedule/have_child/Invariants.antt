use Rattle.std.proofs.Common.{◌≡◌, drop}
use Rattle.cn_tree.specs.Tree.{has_children}
use Rattle.cn_tree.proofs.schedule.have_child.Given as goal

-- whether one of the rest stands below says whether one of all does
abbrev pub invariant-loop-node : goal.invariant-loop-node
invariant-loop-node g l = has_children (drop l.node-index l.nodes) l.fn.path ≡ has_children l.fn.nodes l.fn.path
