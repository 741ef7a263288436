use Rattle.std.proofs.Common.{◌≡◌, ◌++◌, map, take}
use Rattle.std.specs.Prelude.{flat_map}
use Rattle.cn_tree.specs.Tree.{TreeNode}
use Rattle.cursors.specs.Sources.{source_rows}
use Rattle.cursors.proofs.sources.add_tree.Given as goal

-- the sources so far are those of the nodes so far
abbrev pub invariant-loop-at : goal.invariant-loop-at
invariant-loop-at g l =
    map (source_rows g.R.RowSet.rows) l.sources.items
    ≡ map (source_rows g.R.RowSet.rows) l.fn.sources.items
    ++ map g.R.RowSet.rows (flat_map (λ (node : TreeNode g.row.R.Denot). node.sets) (take l.at l.fn.tree.nodes))
