use Rattle.std.proofs.Common.{ap, ◌∙◌, refl}
use Rattle.std.specs.FinMap as map
use Rattle.hse_shell.proofs.RowsLemmas.{rising-found, insert-found, rising-missing, insert-missing}
use Rattle.hse_shell.proofs.rows.Rows.put.Goals as goal

pub invariant_of-self : goal.invariant_of-self
invariant_of-self c =
    let in' = rw c.deref.ensures.value at c.in-Ok.ensures.bound in
    let searched = rw c.deref.ensures.value at c.in-Ok.ensures.position in
    rising-found _ c.args.key.now c.args.value.now c.in-Ok.at c.index_mut.result.now _ c.self.invariant in' searched c.index_mut.ensures.value refl c.in_ok-value.ensures.items

pub returns-in-Ok-clause-written : goal.returns-in-Ok-clause-written
returns-in-Ok-clause-written c =
    let in' = rw c.deref.ensures.value at c.in-Ok.ensures.bound in
    let searched = rw c.deref.ensures.value at c.in-Ok.ensures.position in
    insert-found _ c.args.key.now c.args.value.now c.in-Ok.at c.index_mut.result.now _ c.self.invariant in' searched c.index_mut.ensures.value refl c.in_ok-value.ensures.items
    ∙ ap (λ m. map.insert m c.args.key.now c.args.value.now) c.self.view_is

pub invariant_of-self-in_default : goal.invariant_of-self-in_default
invariant_of-self-in_default c =
    let within = rw c.deref.ensures.value at c.in-Err.ensures.bound in
    let searched = rw c.deref.ensures.value at c.in-Err.ensures.position in
    rw c.in_default.ensures.items
    (rising-missing _ c.args.key.now c.args.value.now c.in-Err.at _ c.self.invariant within searched c.in_ok-key-in-Err.ensures.items c.in_ok-value.ensures.items)

pub returns-in_default-clause-written : goal.returns-in_default-clause-written
returns-in_default-clause-written c =
    let within = rw c.deref.ensures.value at c.in-Err.ensures.bound in
    let searched = rw c.deref.ensures.value at c.in-Err.ensures.position in
    rw c.in_default.ensures.items
    (insert-missing _ c.args.key.now c.args.value.now c.in-Err.at _ c.self.invariant within searched c.in_ok-key-in-Err.ensures.items c.in_ok-value.ensures.items
    ∙ ap (λ m. map.insert m c.args.key.now c.args.value.now) c.self.view_is)
