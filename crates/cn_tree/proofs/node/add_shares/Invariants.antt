use Rattle.std.proofs.Common.{◌≡◌, ◌++◌, drop}
use Rattle.cn_tree.proofs.node.add_shares.Given as goal

-- what stands there with the rest is what stood there with all
abbrev pub invariant-loop-set : goal.invariant-loop-set
invariant-loop-set g l =
    l.into.items ++ drop l.set-index l.sets ≡ l.initial.into.items ++ l.fn.sets
