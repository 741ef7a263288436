use Rattle.std.proofs.Common.{◌≡◌, ◌++◌, drop}
use Rattle.cn_tree.proofs.nodes.share_nodes.Given as goal

-- the twins so far with the rest are all
abbrev pub invariant-loop-node : goal.invariant-loop-node
invariant-loop-node g l = l.twins.items ++ drop l.node-index l.nodes ≡ l.fn.nodes
