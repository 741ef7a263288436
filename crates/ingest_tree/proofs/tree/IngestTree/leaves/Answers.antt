use Rattle.std.proofs.Common.{◌≡◌, ◌/◌, length, ap, sym, ◌∙◌, subst, arith}
use Rattle.std.specs.List.{flat_map}
use Rattle.ingest_tree.specs.Tree.{IsRoot, branch_rows, root_rows}
use Rattle.ingest_tree.proofs.LeafLemmas.{leaves-few, leaves-many}
use Rattle.ingest_tree.proofs.tree.IngestTree.leaves.Goals as goal

pub returns-in-Some-clause-most : goal.returns-in-Some-clause-most
returns-in-Some-clause-most c =
    let few = leaves-few c.in-Some.root (subst IsRoot c.in-Some.is c.self.invariant.root) in
    let same : length (flat_map branch_rows c.in-Some.root) / 64 ≡ length c.args.self.now / 64 =
    ap (λ l. length l / 64) (sym (ap root_rows c.in-Some.is) ∙ c.self.view_is) in
    omega (arith, few, same, c.leaf_count.ensures)

pub returns-in-Some-clause-least : goal.returns-in-Some-clause-least
returns-in-Some-clause-least c =
    let many = leaves-many c.in-Some.root (subst IsRoot c.in-Some.is c.self.invariant.root) in
    let same : length (flat_map branch_rows c.in-Some.root) ≡ length c.args.self.now = ap length (sym (ap root_rows c.in-Some.is) ∙ c.self.view_is) in
    omega (arith, many, same, c.leaf_count.ensures)
