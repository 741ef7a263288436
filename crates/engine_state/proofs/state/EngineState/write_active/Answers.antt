use Rattle.std.proofs.Common.{◌≡◌, refl, sym, ap, ◌∙◌, subst, Some, None}
use Rattle.std.specs.Option.{option_map}
use Rattle.hse_rows.specs.declared.store.Mode.{Mode}
use Rattle.hse_rows.specs.declared.store.Mode.TheVariants.{Tx}
use Rattle.hse_rows.specs.writes.Change.{change_of, write_of}
use Rattle.hse_rows.specs.states.State.{Store, store_named}
use Rattle.hse_rows.specs.transactions.Timeline.{HasStore, snapshot_of}
use Rattle.view.specs.Means.{state_of, store_in}
use Rattle.engine_state.specs.Says.{SaysWrite, Fronts}
use Rattle.engine_state.specs.Inside.{inside_front, inside_rest}
use Rattle.engine_state.proofs.SoundLemmas.{named-in, has-store}
use Rattle.engine_state.proofs.WriteLemmas.{inside-steps, is-inside, table, table-none, written-txn}
use Rattle.engine_state.proofs.state.EngineState.write_active.Goals as goal

pub returns-in_default-clause-step : goal.returns-in_default-clause-step
returns-in_default-clause-step g c m transaction sound s of going =
    let order = c.args.txn.now.id in
    let name = c.args.store.now in
    let change = change_of c.args.change in
    let view = c.view.result.now in
    let snapshot = snapshot_of m.timeline transaction in
    let means : state_of g.R.RowSet.rows view ≡ snapshot = ap (state_of g.R.RowSet.rows) c.view.ensures ∙ of.stands.view in
    let none : store_named snapshot name ≡ None =
    named-in g.R.RowSet view snapshot means name ∙ ap (option_map (store_in g.R.RowSet.rows view.layers)) (sym c.in_default.ensures.store) in
    (table-none m order name change transaction of.at going none, s)

pub returns-in-Some-inside_fault-clause-step : goal.returns-in-Some-inside_fault-clause-step
returns-in-Some-inside_fault-clause-step g c m transaction sound s of going =
    let order = c.args.txn.now.id in
    let name = c.args.store.now in
    let change = change_of c.args.change in
    let view = c.view.result.now in
    let snapshot = snapshot_of m.timeline transaction in
    let means : state_of g.R.RowSet.rows view ≡ snapshot = ap (state_of g.R.RowSet.rows) c.view.ensures ∙ of.stands.view in
    let there : Store = store_in g.R.RowSet.rows view.layers c.in-Some.found.now in
    let named : store_named snapshot name ≡ Some there =
    named-in g.R.RowSet view snapshot means name ∙ ap (option_map (store_in g.R.RowSet.rows view.layers)) (sym c.in-Some.ensures.store) in
    let front : Fronts (Some c.in-Some-inside_fault.fault) (inside_front m change there) =
    subst (λ r. Fronts r (inside_front m change there)) c.in-Some-inside_fault.is (c.inside_fault.ensures m there s refl refl refl) in
    (subst (SaysWrite c.in-Some-inside_fault.fault) (sym (table m order name change transaction of.at going there named)) (front (inside_rest m change transaction there)), s)

pub returns-clause-step : goal.returns-clause-step
returns-clause-step g c m transaction sound s of going =
    let order = c.args.txn.now.id in
    let name = c.args.store.now in
    let change = change_of c.args.change in
    let view = c.view.result.now in
    let snapshot = snapshot_of m.timeline transaction in
    let means : state_of g.R.RowSet.rows view ≡ snapshot = ap (state_of g.R.RowSet.rows) c.view.ensures ∙ of.stands.view in
    let there : Store = store_in g.R.RowSet.rows view.layers c.in-Some.found.now in
    let named : store_named snapshot name ≡ Some there =
    named-in g.R.RowSet view snapshot means name ∙ ap (option_map (store_in g.R.RowSet.rows view.layers)) (sym c.in-Some.ensures.store) in
    let front : Fronts None (inside_front m change there) =
    subst (λ r. Fronts r (inside_front m change there)) c.in_default-inside_fault.is (c.inside_fault.ensures m there s refl refl refl) in
    let has : HasStore snapshot there.id Tx =
    subst (λ (mode : Mode). HasStore snapshot there.id mode) (is-inside m change there front) (has-store snapshot name there named) in
    inside-steps g.R.RowSet m order name change transaction of.at going there named front c.stage.result c.stage.new.self
    (c.stage.ensures.step m transaction there sound s of going refl has)

pub returns-clause-txn : goal.returns-clause-txn
returns-clause-txn g c m transaction s of =
    let order = c.args.txn.now.id in
    let name = c.args.store.now in
    let change = change_of c.args.change in
    let view = c.view.result.now in
    let snapshot = snapshot_of m.timeline transaction in
    let means : state_of g.R.RowSet.rows view ≡ snapshot = ap (state_of g.R.RowSet.rows) c.view.ensures ∙ of.stands.view in
    let there : Store = store_in g.R.RowSet.rows view.layers c.in-Some.found.now in
    let named : store_named snapshot name ≡ Some there =
    named-in g.R.RowSet view snapshot means name ∙ ap (option_map (store_in g.R.RowSet.rows view.layers)) (sym c.in-Some.ensures.store) in
    written-txn g.R.RowSet c.transactions_stand.ensures.stages m change name transaction c.args.txn.now c.stage.new.txn of there named
    (write_of c.in-Some.found.now.id change) refl c.stage.result c.stage.ensures.txn
