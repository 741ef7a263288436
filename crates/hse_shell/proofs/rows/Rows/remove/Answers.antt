use Rattle.std.proofs.Common.{sym, ap, ◌∙◌}
use Rattle.std.specs.FinMap as map
use Rattle.hse_shell.proofs.RowsLemmas.{rising-remove, remove-found, remove-missing}
use Rattle.hse_shell.proofs.rows.Rows.remove.Goals as goal

pub invariant_of-self : goal.invariant_of-self
invariant_of-self c =
    let in' = rw c.deref.ensures.value at c.in-Ok.ensures.bound in
    let searched = rw c.deref.ensures.value at c.in-Ok.ensures.position in
    rw c.remove-row.ensures.items
    (rising-remove _ c.args.key.now c.in-Ok.at c.remove-row.result c.self.invariant in' searched)

pub returns-in-Ok : goal.returns-in-Ok
returns-in-Ok c =
    let in' = rw c.deref.ensures.value at c.in-Ok.ensures.bound in
    let searched = rw c.deref.ensures.value at c.in-Ok.ensures.position in
    rw c.remove-row.ensures.items
    (remove-found _ c.args.key.now c.in-Ok.at c.remove-row.result c.self.invariant in' searched
    ∙ ap (λ m. map.remove m c.args.key.now) c.self.view_is)

pub returns-in_default : goal.returns-in_default
returns-in_default c =
    let within = rw c.deref.ensures.value at c.in_default.ensures.bound in
    let searched = rw c.deref.ensures.value at c.in_default.ensures.position in
    sym c.self.view_is
    ∙ remove-missing _ c.args.key.now c.in_default.field-0 c.self.invariant within searched
    ∙ ap (λ m. map.remove m c.args.key.now) c.self.view_is
