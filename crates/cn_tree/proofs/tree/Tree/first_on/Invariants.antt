use Rattle.std.proofs.Common.{◌≡◌, drop, map}
use Rattle.cn_tree.specs.Path.{depths}
use Rattle.cn_tree.specs.Tree.{sets_along, sets_on}
use Rattle.cn_tree.specs.Found.{first_row}
use Rattle.cn_tree.proofs.tree.Tree.first_on.Given as goal

-- what the deeper nodes say first is what all on the path say first
abbrev pub invariant-loop-depth : goal.invariant-loop-depth
invariant-loop-depth g l =
    let rows = g.R.RowSet.rows in
    first_row l.fn.key (map rows (sets_along l.fn.self.nodes l.fn.path (drop l.depth depths)))
    ≡ first_row l.fn.key (map rows (sets_on l.fn.self l.fn.key))
