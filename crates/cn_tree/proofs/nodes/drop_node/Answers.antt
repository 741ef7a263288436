use Rattle.std.proofs.Common.{◌∙◌, sym, []}
use Rattle.cn_tree.proofs.NodeLemmas.{removed-found, others-missing, place-searched}
use Rattle.cn_tree.proofs.nodes.drop_node.Goals as goal

pub returns-in-Ok : goal.returns-in-Ok
returns-in-Ok g c =
    let within = rw c.deref.ensures.value at c.in-Ok.ensures.bound in
    let searched = rw c.deref.ensures.value at c.in-Ok.ensures.position in
    c.remove.ensures.by_index.2
    ∙ removed-found c.args.path.now [] c.args.nodes.now.items c.in-Ok.at c.remove.result c.requires within (searched _)

pub returns-in-Err : goal.returns-in-Err
returns-in-Err g c =
    let within = rw c.deref.ensures.value at c.in-Err.ensures.bound in
    let searched = rw c.deref.ensures.value at c.in-Err.ensures.position in
    sym (others-missing c.args.path.now [] c.args.nodes.now.items c.in-Err.field-0
    (place-searched c.args.path.now [] c.args.nodes.now.items c.in-Err.field-0 c.requires within searched))
