use Rattle.std.proofs.Common.{◌≡◌, refl, sym, ap, ◌∙◌, subst, arith, None}
use Rattle.hse_rows.specs.writes.Change.{change_of}
use Rattle.hse_rows.specs.writes.Lengths.{longest_value_in}
use Rattle.hse_rows.specs.machine.Replies.{store_mode, broken, spent}
use Rattle.hse_rows.specs.machine.Core.{number_of, longest_value, greatest_number}
use Rattle.hse_rows.specs.machine.CoreRefusal.{is_tx, is_spent, change_refusal}
use Rattle.engine_state.specs.Says.{Fronts}
use Rattle.engine_state.proofs.RefusalLemmas.{passed, stopped, is-le, is-not_le}
use Rattle.engine_state.proofs.SoundLemmas.{view-number}
use Rattle.engine_state.proofs.state.EngineState.plain_fault.Goals as goal

pub returns-then-number-ge-GREATEST_NUMBER-clause-front : goal.returns-then-number-ge-GREATEST_NUMBER-clause-front
returns-then-number-ge-GREATEST_NUMBER-clause-front g c m live s mode length later =
    let number : c.args.self.now.view.number ≡ number_of m = view-number g.R.RowSet c.args.self.now.view m s.view in
    let most : longest_value m.sizes ≡ c.longest_value-most.result =
    ap longest_value_in (sym s.sizes.slot) ∙ sym c.longest_value-most.ensures in
    let fits : Fronts None (change_refusal m.sizes live (change_of c.args.change)) =
    subst (λ r. Fronts r (change_refusal m.sizes live (change_of c.args.change))) c.in_default.is (c.change_fault.ensures m.sizes live most length) in
    passed (is_tx live.mode) store_mode _ _ (ap is_tx (mode ∙ c.in-Plain.is))
    (fits _
    ∙ passed m.is_broken broken _ _ (sym s.is_broken ∙ c.if-self.false)
    (stopped (is_spent m) spent later (is-le greatest_number (number_of m)
    (omega (arith, c.if-number-ge-GREATEST_NUMBER.true, c.number.ensures.number, number)))))

pub returns-clause-front : goal.returns-clause-front
returns-clause-front g c m live s mode length later =
    let number : c.args.self.now.view.number ≡ number_of m = view-number g.R.RowSet c.args.self.now.view m s.view in
    let most : longest_value m.sizes ≡ c.longest_value-most.result =
    ap longest_value_in (sym s.sizes.slot) ∙ sym c.longest_value-most.ensures in
    let fits : Fronts None (change_refusal m.sizes live (change_of c.args.change)) =
    subst (λ r. Fronts r (change_refusal m.sizes live (change_of c.args.change))) c.in_default.is (c.change_fault.ensures m.sizes live most length) in
    passed (is_tx live.mode) store_mode _ _ (ap is_tx (mode ∙ c.in-Plain.is))
    (fits _
    ∙ passed m.is_broken broken _ _ (sym s.is_broken ∙ c.if-self.false)
    (passed (is_spent m) spent later later (is-not_le greatest_number (number_of m)
    (omega (arith, c.if-number-ge-GREATEST_NUMBER.false, c.number.ensures.number, number))) refl))
