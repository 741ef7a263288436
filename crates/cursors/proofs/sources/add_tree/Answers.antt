use Rattle.std.proofs.Common.{◌++◌, List, map, take, sym, ap, ◌∙◌, append_assoc}
use Rattle.std.specs.Prelude.{flat_map}
use Rattle.hse_rows.specs.declared.row.Row.{Row}
use Rattle.cn_tree.specs.Tree.{TreeNode, node_of}
use Rattle.cursors.specs.Sources.{source_rows}
use Rattle.cursors.proofs.SourceLemmas.{flat-more}
use Rattle.cursors.proofs.sources.add_tree.Goals as goal

pub loop-at-preserved : goal.loop-at-preserved
loop-at-preserved g c =
    let rows = g.R.RowSet.rows in
    let sets = λ (node : TreeNode g.row.R.Denot). node.sets in
    let node = node_of c.node.result.0.now c.node.result.1.now in
    c.in_ok-add_sets.ensures
    ∙ ap (λ (l : List (List Row)). l ++ map rows c.node.result.1.now) c.loop-at.invariant
    ∙ append_assoc (map (source_rows rows) c.args.sources.now.items) (map rows (flat_map sets (take c.loop-at.at c.args.tree.now.nodes))) (map rows c.node.result.1.now)
    ∙ ap (λ (l : List (List Row)). map (source_rows rows) c.args.sources.now.items ++ l)
    (sym (flat-more rows sets c.args.tree.now.nodes c.loop-at.at node c.node.ensures))
