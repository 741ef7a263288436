use Rattle.std.proofs.Common.{ap, sym, ◌∙◌, cond}
use Rattle.key_locks.specs.Seen.{seen_below, seen_with}
use Rattle.key_locks.proofs.RangeWalk.{range-seen}
use Rattle.key_locks.proofs.search.below.Goals as goal

pub returns-then-not-begins_with : goal.returns-then-not-begins_with
returns-then-not-begins_with c =
    let apart = sym c.begins_with.ensures ∙ c.if-not-begins_with.true in
    let seen = c.loop-name.seen in
    let last = ap (λ b. cond b (seen_below c.args.txn c.args.start.now c.next.new.self (seen_with c.args.txn seen c.in-Some.lock.now)) seen) apart in
    let next = ap (λ l. seen_below c.args.txn c.args.start.now l seen) c.in-Some.ensures.steps ∙ last in
    range-seen c.args.table.now c.args.txn c.args.start.now c.requires c.range-rest.ensures.ordered c.range-rest.result seen
    (c.range-rest.ensures.between tt) (c.range-rest.ensures.in_range tt).0 (sym next ∙ c.loop-name.invariant.2)

pub returns : goal.returns
returns c =
    let seen = c.loop-name.seen in
    let next = ap (λ l. seen_below c.args.txn c.args.start.now l seen) c.in_default.ensures.steps.0 in
    range-seen c.args.table.now c.args.txn c.args.start.now c.requires c.range-rest.ensures.ordered c.range-rest.result seen
    (c.range-rest.ensures.between tt) (c.range-rest.ensures.in_range tt).0 (sym next ∙ c.loop-name.invariant.2)
