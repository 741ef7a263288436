use Rattle.std.proofs.Common.{◌≡◌, drop}
use Rattle.std.specs.List.{find}
use Rattle.cn_tree.specs.Schedule.{waits}
use Rattle.cn_tree.proofs.schedule.first_pick.Given as goal

-- the first of the rest that waits is the first of all that does
abbrev pub invariant-loop-node : goal.invariant-loop-node
invariant-loop-node g l = find (waits l.fn.claimed) (drop l.node-index l.nodes) ≡ find (waits l.fn.claimed) l.fn.nodes
