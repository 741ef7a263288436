use Rattle.std.proofs.Common.{List, ℕ, Some, None, ◌∙◌, sym, ap, map, take}
use Rattle.hse_rows.specs.rows.RowSets.{row_by}
use Rattle.cn_tree.specs.Path.{depths}
use Rattle.cn_tree.specs.Tree.{sets_at, sets_along, sets_on}
use Rattle.cn_tree.specs.Found.{first_row}
use Rattle.cn_tree.proofs.FoundLemmas.{first-depth}
use Rattle.cn_tree.proofs.tree.Tree.first_on.Goals as goal

pub loop-depth-init : goal.loop-depth-init
unfolding sets_on
loop-depth-init g c = ap (λ (path : List ℕ). first_row c.args.key.now (map g.R.RowSet.rows (sets_along c.args.self.now.nodes path depths))) c.requires

pub returns-in-Some : goal.returns-in-Some
returns-in-Some g c =
    sym (first-depth c.args.key.now g.R.RowSet.rows (λ depth. sets_at c.args.self.now.nodes (take depth c.args.path.now)) (Some (row_by c.in-Some.row)) c.loop-depth.depth
    c.loop-depth-test.true
    (c.in-Some.ensures ∙ ap (λ sets. first_row c.args.key.now (map g.R.RowSet.rows sets))
    (c.sets_of.ensures ∙ ap (λ nodes. sets_at nodes (take c.loop-depth.depth c.args.path.now)) c.list.ensures.value)))
    ∙ c.loop-depth.invariant

pub loop-depth-preserved : goal.loop-depth-preserved
loop-depth-preserved g c =
    sym (first-depth c.args.key.now g.R.RowSet.rows (λ depth. sets_at c.args.self.now.nodes (take depth c.args.path.now)) None c.loop-depth.depth
    c.loop-depth-test.true
    (c.in-None.ensures ∙ ap (λ sets. first_row c.args.key.now (map g.R.RowSet.rows sets))
    (c.sets_of.ensures ∙ ap (λ nodes. sets_at nodes (take c.loop-depth.depth c.args.path.now)) c.list.ensures.value)))
    ∙ c.loop-depth.invariant
