use Rattle.std.proofs.Common.{◌∙◌, sym, ap, []}
use Rattle.cn_tree.proofs.NodeLemmas.{sets_at-found, sets_at-missing, place-searched}
use Rattle.cn_tree.proofs.nodes.sets_of.Goals as goal

pub returns-in-Ok : goal.returns-in-Ok
returns-in-Ok g c =
    c.sets.ensures ∙ ap (λ node. node.sets) c.index-nodes-at.is
    ∙ sym (sets_at-found c.args.path.now [] c.args.nodes.now c.in-Ok.at _ c.requires c.in-Ok.ensures.bound (c.in-Ok.ensures.position _))

pub returns-in-Err : goal.returns-in-Err
returns-in-Err g c =
    sym (sets_at-missing c.args.path.now [] c.args.nodes.now c.in-Err.field-0
    (place-searched c.args.path.now [] c.args.nodes.now c.in-Err.field-0 c.requires c.in-Err.ensures.bound c.in-Err.ensures.position))
