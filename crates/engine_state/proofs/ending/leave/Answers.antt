use Rattle.std.proofs.Common.{◌∙◌}
use Rattle.engine_state.proofs.LeaveLemmas.{removed, absent, equal-is}
use Rattle.engine_state.proofs.ending.leave.Goals as goal

pub returns-in-Ok : goal.returns-in-Ok
returns-in-Ok c ordered =
    let within = rw c.deref.ensures.value at c.in-Ok.ensures.bound in
    let searched = rw c.deref.ensures.value at c.in-Ok.ensures.position in
    c.remove.ensures.by_index.2
    ∙ removed c.args.live.now.items c.in-Ok.at c.remove.result c.args.order ordered within (equal-is _ _ (searched c.remove.result))

pub returns-in_default : goal.returns-in_default
returns-in_default c ordered =
    absent c.args.live.now.items c.in_default.field-0 c.args.order ordered (rw c.deref.ensures.value at c.in_default.ensures.position)
