use Rattle.std.proofs.Common.{sym, ap, ◌∙◌, subst}
use Rattle.std.specs.Option.{option_map}
use Rattle.std.specs.Ordering.{is_gt, is_lt}
use Rattle.merge.specs.Places.{direction_of}
use Rattle.cursors.specs.Pairs.{IsEnd}
use Rattle.cursors.proofs.KindLemmas.{end-down, end-last, end-up}
use Rattle.cursors.proofs.kind.is_behind.Goals as goal

pub returns-then-asked : goal.returns-then-asked
returns-then-asked c =
    let last = option_map (λ last. last.now) c.args.asked.last in
    λ is.
    subst (λ b. IsEnd (direction_of b) c.args.asked.filter.now last c.args.key.now) (sym c.if-asked.true)
    (end-down c.args.asked.filter.now last c.args.key.now (sym (ap is_lt c.cmp.ensures) ∙ sym c.is_lt.ensures ∙ is))

pub returns-then-not-is_within : goal.returns-then-not-is_within
returns-then-not-is_within c =
    let last = option_map (λ last. last.now) c.args.asked.last in
    λ is.
    subst (λ b. IsEnd (direction_of b) c.args.asked.filter.now last c.args.key.now) (sym c.if-asked.false)
    (end-last c.args.asked.filter.now last c.args.key.now (sym c.is_within.ensures ∙ c.if-not-is_within.true))

pub returns : goal.returns
returns c =
    let last = option_map (λ last. last.now) c.args.asked.last in
    λ is.
    subst (λ b. IsEnd (direction_of b) c.args.asked.filter.now last c.args.key.now) (sym c.if-asked.false)
    (end-up c.args.asked.filter.now last c.args.key.now (sym c.starts_with.ensures.value ∙ c.if-starts_with.false)
    (sym (ap is_gt c.cmp-2.ensures) ∙ sym c.is_gt.ensures ∙ is))
