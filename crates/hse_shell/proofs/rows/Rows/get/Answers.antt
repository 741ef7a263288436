use Rattle.std.proofs.Common.{sym, ap, ◌∙◌, Some}
use Rattle.std.specs.FinMap as map
use Rattle.hse_shell.proofs.RowsLemmas.{get-found, get-missing}
use Rattle.hse_shell.proofs.rows.Rows.get.Goals as goal

pub returns-in-Ok : goal.returns-in-Ok
returns-in-Ok c =
    let in' = rw c.deref.ensures.value at c.in-Ok.ensures.bound in
    let searched = rw c.deref.ensures.value at c.in-Ok.ensures.position in
    ap Some c.deref-in-Ok.ensures.value
    ∙ sym (get-found _ c.args.key.now c.in-Ok.at c.index.result.now c.self.invariant in' searched c.index.ensures)
    ∙ ap (λ m. map.get m c.args.key.now) c.self.view_is

pub returns-in-Err : goal.returns-in-Err
returns-in-Err c =
    let within = rw c.deref.ensures.value at c.in-Err.ensures.bound in
    let searched = rw c.deref.ensures.value at c.in-Err.ensures.position in
    sym (get-missing _ c.args.key.now c.in-Err.field-0 c.self.invariant within searched)
    ∙ ap (λ m. map.get m c.args.key.now) c.self.view_is
