use Rattle.std.proofs.Common.{◌≡◌, sym, ap, ◌∙◌, arith, ℕ, Option, None, Some}
use Rattle.std.proofs.lemmas.Bool.Decides.{nat_tests}
use Rattle.hse_rows.specs.machine.Replies.{Refusal, too_many}
use Rattle.hse_rows.specs.machine.Core.{number_of}
use Rattle.engine_state.proofs.SoundLemmas.{view-number}
use Rattle.engine_state.proofs.StoreTables.{at-exists, at-prefix, at-broken, at-many, at-spent, past, has-name, is-full}
use Rattle.engine_state.proofs.state.EngineState.create_fault.Goals as goal

pub returns-in-Some-clause-front : goal.returns-in-Some-clause-front
returns-in-Some-clause-front g c m s later =
    at-exists m c.args.name.now c.args.prefix later
    (has-name g.R.RowSet c.args.self.now.view m s.view c.args.name.now (Some c.in-Some.field-0.now) c.in-Some.ensures.store)

pub returns-then-is_long-clause-front : goal.returns-then-is_long-clause-front
returns-then-is_long-clause-front g c m s later =
    at-prefix m c.args.name.now c.args.prefix later
    (has-name g.R.RowSet c.args.self.now.view m s.view c.args.name.now None c.in_default.ensures.store)
    (sym c.is_long.ensures ∙ c.if-is_long.true)

pub returns-then-self-clause-front : goal.returns-then-self-clause-front
returns-then-self-clause-front g c m s later =
    at-broken m c.args.name.now c.args.prefix later
    (has-name g.R.RowSet c.args.self.now.view m s.view c.args.name.now None c.in_default.ensures.store)
    (sym c.is_long.ensures ∙ c.if-is_long.false) (sym s.is_broken ∙ c.if-self.true)

pub returns-then-has_most-clause-front : goal.returns-then-has_most-clause-front
returns-then-has_most-clause-front g c m s later =
    let most : c.args.self.now.sizes.most_stores ≡ m.sizes.most_stores = s.sizes.stores in
    at-many m c.args.name.now c.args.prefix later
    (has-name g.R.RowSet c.args.self.now.view m s.view c.args.name.now None c.in_default.ensures.store)
    (sym c.is_long.ensures ∙ c.if-is_long.false) (sym s.is_broken ∙ c.if-self.false)
    (is-full g.R.RowSet c.args.self.now.view m s.view c.args.self.now.sizes.most_stores most ∙ sym c.has_most.ensures ∙ c.if-has_most.true)
    ∙ ap (λ (n : ℕ). let r : Option (Refusal ℕ) = Some (too_many n) in r) (sym most)

pub returns-then-number-ge-GREATEST_NUMBER-clause-front : goal.returns-then-number-ge-GREATEST_NUMBER-clause-front
returns-then-number-ge-GREATEST_NUMBER-clause-front g c m s later =
    let number : c.args.self.now.view.number ≡ number_of m = view-number g.R.RowSet c.args.self.now.view m s.view in
    at-spent m c.args.name.now c.args.prefix later
    (has-name g.R.RowSet c.args.self.now.view m s.view c.args.name.now None c.in_default.ensures.store)
    (sym c.is_long.ensures ∙ c.if-is_long.false) (sym s.is_broken ∙ c.if-self.false)
    (is-full g.R.RowSet c.args.self.now.view m s.view c.args.self.now.sizes.most_stores s.sizes.stores ∙ sym c.has_most.ensures ∙ c.if-has_most.false)
    (omega (arith, c.if-number-ge-GREATEST_NUMBER.true, c.number.ensures.number, number))

pub returns-clause-front : goal.returns-clause-front
returns-clause-front g c m s later =
    let number : c.args.self.now.view.number ≡ number_of m = view-number g.R.RowSet c.args.self.now.view m s.view in
    past m c.args.name.now c.args.prefix later
    (has-name g.R.RowSet c.args.self.now.view m s.view c.args.name.now None c.in_default.ensures.store)
    (sym c.is_long.ensures ∙ c.if-is_long.false) (sym s.is_broken ∙ c.if-self.false)
    (is-full g.R.RowSet c.args.self.now.view m s.view c.args.self.now.sizes.most_stores s.sizes.stores ∙ sym c.has_most.ensures ∙ c.if-has_most.false)
    (omega (arith, c.if-number-ge-GREATEST_NUMBER.false, c.number.ensures.number, number))

pub returns-clause-prefix : goal.returns-clause-prefix
returns-clause-prefix g c none = grind (arith, nat_tests, c.is_long.ensures, c.if-is_long.false)
