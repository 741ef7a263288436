use Rattle.std.proofs.Common.{◌∙◌}
use Rattle.cn_tree.proofs.NodeLemmas.{placed-found, placed-missing, place-searched}
use Rattle.cn_tree.proofs.nodes.put_node.Goals as goal

pub returns-in-Ok : goal.returns-in-Ok
returns-in-Ok g c =
    let within = rw c.deref.ensures.value at c.in-Ok.ensures.bound in
    let searched = rw c.deref.ensures.value at c.in-Ok.ensures.position in
    let found = rw (c.digits.ensures.value, c.path.ensures) at searched c.args.node in
    placed-found c.args.node.path c.args.node.sets c.args.nodes.now.items c.in-Ok.at c.args.node c.requires within found

pub returns-in_ok-insert-in-Err : goal.returns-in_ok-insert-in-Err
returns-in_ok-insert-in-Err g c =
    let within = rw c.deref.ensures.value at c.in-Err.ensures.bound in
    let searched = rw c.deref.ensures.value at c.in-Err.ensures.position in
    let missing = rw (c.digits.ensures.value, c.path.ensures) at searched in
    c.in_ok-insert-in-Err.ensures.items
    ∙ placed-missing c.args.node.path c.args.node.sets c.args.nodes.now.items c.in-Err.at
    (place-searched c.args.node.path c.args.node.sets c.args.nodes.now.items c.in-Err.at c.requires within missing)
