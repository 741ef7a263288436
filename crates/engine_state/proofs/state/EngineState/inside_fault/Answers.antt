use Rattle.std.proofs.Common.{◌≡◌, refl, sym, ap, ◌∙◌, subst, true, not, Some, None}
use Rattle.std.specs.Prelude.{is_some}
use Rattle.hse_rows.specs.declared.store.Mode.{Mode}
use Rattle.hse_rows.specs.writes.Change.{change_of}
use Rattle.hse_rows.specs.writes.Lengths.{longest_value_in}
use Rattle.hse_rows.specs.states.State.{store_of}
use Rattle.hse_rows.specs.machine.Replies.{no_store, store_mode, broken}
use Rattle.hse_rows.specs.machine.Core.{now, longest_value}
use Rattle.hse_rows.specs.machine.CoreRefusal.{is_tx, change_refusal}
use Rattle.engine_state.specs.Says.{SaysWrite, Fronts}
use Rattle.engine_state.proofs.RefusalLemmas.{passed, stopped}
use Rattle.engine_state.proofs.WriteLemmas.{live-store}
use Rattle.engine_state.proofs.state.EngineState.inside_fault.Goals as goal

pub returns-in_default : goal.returns-in_default
returns-in_default g c m there s id mode length later =
    stopped _ no_store _
    (ap not (live-store g.R.RowSet c.args.self.now.view m s.view there.id c.args.store.now.id.0 id None c.in_default.ensures.store))

pub returns-in-Plain : goal.returns-in-Plain
returns-in-Plain g c m there s id mode length later =
    let live : is_some (store_of (now m) there.id) ≡ true =
    live-store g.R.RowSet c.args.self.now.view m s.view there.id c.args.store.now.id.0 id (Some c.in-Some.field-0.now) c.in-Some.ensures.store in
    passed _ _ _ _ (ap not live) (stopped _ store_mode _ (ap (λ (md : Mode). not (is_tx md)) (mode ∙ c.in-Plain.is)))

pub returns-in-Some-change_fault : goal.returns-in-Some-change_fault
returns-in-Some-change_fault g c m there s id mode length later =
    let live : is_some (store_of (now m) there.id) ≡ true =
    live-store g.R.RowSet c.args.self.now.view m s.view there.id c.args.store.now.id.0 id (Some c.in-Some.field-0.now) c.in-Some.ensures.store in
    let most : longest_value m.sizes ≡ c.longest_value-most.result =
    ap longest_value_in (sym s.sizes.slot) ∙ sym c.longest_value-most.ensures in
    let fault : Fronts (Some c.in-Some-change_fault.fault) (change_refusal m.sizes there (change_of c.args.change)) =
    subst (λ r. Fronts r (change_refusal m.sizes there (change_of c.args.change))) c.in-Some-change_fault.is (c.change_fault.ensures m.sizes there most length) in
    subst (SaysWrite c.in-Some-change_fault.fault)
    (sym (passed _ _ _ _ (ap not live) (passed _ _ _ _ (ap (λ (md : Mode). not (is_tx md)) (mode ∙ c.in-Tx.is)) refl)))
    (fault _)

pub returns-then-self : goal.returns-then-self
returns-then-self g c m there s id mode length later =
    let live : is_some (store_of (now m) there.id) ≡ true =
    live-store g.R.RowSet c.args.self.now.view m s.view there.id c.args.store.now.id.0 id (Some c.in-Some.field-0.now) c.in-Some.ensures.store in
    let most : longest_value m.sizes ≡ c.longest_value-most.result =
    ap longest_value_in (sym s.sizes.slot) ∙ sym c.longest_value-most.ensures in
    let fits : Fronts None (change_refusal m.sizes there (change_of c.args.change)) =
    subst (λ r. Fronts r (change_refusal m.sizes there (change_of c.args.change))) c.in_default-change_fault.is (c.change_fault.ensures m.sizes there most length) in
    passed _ _ _ _ (ap not live)
    (passed _ _ _ _ (ap (λ (md : Mode). not (is_tx md)) (mode ∙ c.in-Tx.is))
    (fits _ ∙ stopped m.is_broken broken later (sym s.is_broken ∙ c.if-self.true)))

pub returns : goal.returns
returns g c m there s id mode length later =
    let live : is_some (store_of (now m) there.id) ≡ true =
    live-store g.R.RowSet c.args.self.now.view m s.view there.id c.args.store.now.id.0 id (Some c.in-Some.field-0.now) c.in-Some.ensures.store in
    let most : longest_value m.sizes ≡ c.longest_value-most.result =
    ap longest_value_in (sym s.sizes.slot) ∙ sym c.longest_value-most.ensures in
    let fits : Fronts None (change_refusal m.sizes there (change_of c.args.change)) =
    subst (λ r. Fronts r (change_refusal m.sizes there (change_of c.args.change))) c.in_default-change_fault.is (c.change_fault.ensures m.sizes there most length) in
    passed _ _ _ _ (ap not live)
    (passed _ _ _ _ (ap (λ (md : Mode). not (is_tx md)) (mode ∙ c.in-Tx.is))
    (fits _ ∙ passed m.is_broken broken later later (sym s.is_broken ∙ c.if-self.false) refl))
