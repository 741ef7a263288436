use Rattle.std.proofs.Common.{◌≡◌, refl, sym, ap, ◌∙◌, arith, ℕ, Option, None, Some}
use Rattle.std.specs.Option.{option_map}
use Rattle.hse_rows.specs.transactions.Transaction.{Transaction}
use Rattle.hse_rows.specs.machine.Core.{number_of, greatest_number}
use Rattle.hse_rows.specs.machine.CoreRefusal.{is_spent, first_in_store}
use Rattle.engine_state.proofs.RefusalLemmas.{passed, stopped, is-le, is-not_le}
use Rattle.engine_state.proofs.SoundLemmas.{view-number}
use Rattle.engine_state.proofs.StoreTables.{drop-broken, drop-held}
use Rattle.engine_state.proofs.state.EngineState.drop_fault.Goals as goal

pub returns-then-self-clause-front : goal.returns-then-self-clause-front
returns-then-self-clause-front g c m there sound s id later = drop-broken m there later (sym s.is_broken ∙ c.if-self.true)

pub returns-in-Some-clause-front : goal.returns-in-Some-clause-front
returns-in-Some-clause-front g c m there sound s id later =
    let first : option_map (λ (transaction : Transaction). transaction.begun) (first_in_store m.timeline.begun there.id) ≡ Some c.in-Some.order =
    ap (λ (n : ℕ). option_map (λ (transaction : Transaction). transaction.begun) (first_in_store m.timeline.begun n)) id
    ∙ c.first_holders_tell.ensures c.args.self.now.locks m.timeline s.locks.above s.locks.stand sound.stands.isolated c.args.store.now.id.0
    (Some c.in-Some.order) c.in-Some.ensures in
    drop-held m there later (sym s.is_broken ∙ c.if-self.false) (Some c.in-Some.order) first

pub returns-then-number-ge-GREATEST_NUMBER-clause-front : goal.returns-then-number-ge-GREATEST_NUMBER-clause-front
returns-then-number-ge-GREATEST_NUMBER-clause-front g c m there sound s id later =
    let number : c.args.self.now.view.number ≡ number_of m = view-number g.R.RowSet c.args.self.now.view m s.view in
    let none : Option ℕ = None in
    let first : option_map (λ (transaction : Transaction). transaction.begun) (first_in_store m.timeline.begun there.id) ≡ none =
    ap (λ (n : ℕ). option_map (λ (transaction : Transaction). transaction.begun) (first_in_store m.timeline.begun n)) id
    ∙ c.first_holders_tell.ensures c.args.self.now.locks m.timeline s.locks.above s.locks.stand sound.stands.isolated c.args.store.now.id.0
    none c.in_default.ensures in
    drop-held m there later (sym s.is_broken ∙ c.if-self.false) none first
    ∙ stopped (is_spent m) _ _ (is-le greatest_number (number_of m)
    (omega (arith, c.if-number-ge-GREATEST_NUMBER.true, c.number.ensures.number, number)))

pub returns-clause-front : goal.returns-clause-front
returns-clause-front g c m there sound s id later =
    let number : c.args.self.now.view.number ≡ number_of m = view-number g.R.RowSet c.args.self.now.view m s.view in
    let none : Option ℕ = None in
    let first : option_map (λ (transaction : Transaction). transaction.begun) (first_in_store m.timeline.begun there.id) ≡ none =
    ap (λ (n : ℕ). option_map (λ (transaction : Transaction). transaction.begun) (first_in_store m.timeline.begun n)) id
    ∙ c.first_holders_tell.ensures c.args.self.now.locks m.timeline s.locks.above s.locks.stand sound.stands.isolated c.args.store.now.id.0
    none c.in_default.ensures in
    drop-held m there later (sym s.is_broken ∙ c.if-self.false) none first
    ∙ passed (is_spent m) _ _ _ (is-not_le greatest_number (number_of m)
    (omega (arith, c.if-number-ge-GREATEST_NUMBER.false, c.number.ensures.number, number))) refl
