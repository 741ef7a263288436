use Rattle.std.proofs.Common.{◌<◌, ◌≤◌, subst, ◌∙◌}
use Rattle.prefix_delete.specs.declared.entry.Entry.{Entry}
use Rattle.prefix_delete.proofs.EntryLemmas.{added-newer, added-older, added-missing, missing-place}
use Rattle.prefix_delete.proofs.prefix_list.put.Goals as goal

pub returns-then-index-entry-clause-added : goal.returns-then-index-entry-clause-added
returns-then-index-entry-clause-added c =
    let within = rw c.deref.ensures.value at c.in-Ok.ensures.bound in
    let searched = rw (c.deref.ensures.value, c.bytes.ensures.value) at c.in-Ok.ensures.position c.index.result.now in
    added-newer c.args.entries.now.items c.args.entry c.in-Ok.at c.index.result.now c.requires within searched
    (subst (λ (e : Entry). e.number ≤ c.args.entry.number) c.index.ensures c.if-index-entry.true)

pub returns-else-index-entry-clause-added : goal.returns-else-index-entry-clause-added
returns-else-index-entry-clause-added c =
    let within = rw c.deref.ensures.value at c.in-Ok.ensures.bound in
    let searched = rw (c.deref.ensures.value, c.bytes.ensures.value) at c.in-Ok.ensures.position c.index.result.now in
    added-older c.args.entries.now.items c.args.entry c.in-Ok.at c.index.result.now c.requires within searched
    (subst (λ (e : Entry). c.args.entry.number < e.number) c.index.ensures c.if-index-entry.false)

pub returns-in_ok-insert-in-Err-clause-added : goal.returns-in_ok-insert-in-Err-clause-added
returns-in_ok-insert-in-Err-clause-added c =
    let within = rw c.deref.ensures.value at c.in-Err.ensures.bound in
    let missing = rw (c.deref.ensures.value, c.bytes.ensures.value) at c.in-Err.ensures.position in
    c.in_ok-insert-in-Err.ensures.items
    ∙ added-missing c.args.entries.now.items c.args.entry c.in-Err.at c.requires
    (missing-place c.args.entry.prefix c.args.entries.now.items c.requires c.in-Err.at within missing)
