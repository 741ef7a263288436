use Rattle.std.proofs.Common.{◌∙◌}
use Rattle.hse_rows.proofs.WriteLemmas.{set-searched, insert-searched}
use Rattle.hse_rows.proofs.places.put_in_place.Goals as goal

pub returns-in-Ok : goal.returns-in-Ok
returns-in-Ok c =
    let within = rw c.deref.ensures.value at c.in-Ok.ensures.bound in
    let searched = rw c.deref.ensures.value at c.in-Ok.ensures.position in
    set-searched _ _ c.in-Ok.at c.requires.rising within searched

pub returns-in-Ok-insert : goal.returns-in-Ok-insert
returns-in-Ok-insert c =
    let within = rw c.deref.ensures.value at c.in-Err.ensures.bound in
    let searched = rw c.deref.ensures.value at c.in-Err.ensures.position in
    c.in-Ok-insert.ensures.items
    ∙ insert-searched _ _ c.in-Err.at c.requires.rising within searched
