use Rattle.std.proofs.Common.{◌≡◌, refl, sym, ap, ◌∙◌, subst, Some, None}
use Rattle.std.specs.Option.{option_map}
use Rattle.hse_rows.specs.states.State.{Store, store_named}
use Rattle.hse_rows.specs.writes.Change.{change_of}
use Rattle.hse_rows.specs.transactions.Timeline.{for_some}
use Rattle.hse_rows.specs.machine.Replies.{no_store}
use Rattle.hse_rows.specs.machine.Core.{now}
use Rattle.hse_rows.specs.machine.CoreRefusal.{outside_refusal}
use Rattle.view.specs.Means.{store_in}
use Rattle.engine_state.specs.Says.{SaysWrite, Fronts}
use Rattle.engine_state.specs.Plain.{plain_front, plain_room}
use Rattle.engine_state.proofs.SoundLemmas.{named-in}
use Rattle.engine_state.proofs.PlainLemmas.{table, is-plain, plain-steps}
use Rattle.engine_state.proofs.state.EngineState.write_plain.Goals as goal

pub returns-in_default : goal.returns-in_default
returns-in_default g c m sound s =
    let view = c.args.self.now.view in
    let none : store_named (now m) c.args.store.now ≡ None =
    named-in g.R.RowSet view (now m) s.view.state c.args.store.now ∙ ap (option_map (store_in g.R.RowSet.rows view.layers)) (sym c.in_default.ensures.store) in
    (ap (λ o. for_some o (Some no_store) (outside_refusal m (change_of c.args.change))) none, s)

pub returns-in-Some-plain_fault : goal.returns-in-Some-plain_fault
returns-in-Some-plain_fault g c m sound s =
    let view = c.args.self.now.view in
    let change = change_of c.args.change in
    let there : Store = store_in g.R.RowSet.rows view.layers c.in-Some.found.now in
    let named : store_named (now m) c.args.store.now ≡ Some there =
    named-in g.R.RowSet view (now m) s.view.state c.args.store.now ∙ ap (option_map (store_in g.R.RowSet.rows view.layers)) (sym c.in-Some.ensures.store) in
    let front : Fronts (Some c.in-Some-plain_fault.fault) (plain_front m change there) =
    subst (λ r. Fronts r (plain_front m change there)) c.in-Some-plain_fault.is (c.plain_fault.ensures.front m there s refl refl) in
    (subst (SaysWrite c.in-Some-plain_fault.fault) (sym (table m c.args.store.now change there named)) (front (plain_room m change there)), s)

pub log_write-requires : goal.log_write-requires
log_write-requires g c = c.plain_fault.ensures.number c.in_default-plain_fault.is

pub returns : goal.returns
returns g c m sound s =
    let view = c.args.self.now.view in
    let change = change_of c.args.change in
    let there : Store = store_in g.R.RowSet.rows view.layers c.in-Some.found.now in
    let named : store_named (now m) c.args.store.now ≡ Some there =
    named-in g.R.RowSet view (now m) s.view.state c.args.store.now ∙ ap (option_map (store_in g.R.RowSet.rows view.layers)) (sym c.in-Some.ensures.store) in
    let front : Fronts None (plain_front m change there) =
    subst (λ r. Fronts r (plain_front m change there)) c.in_default-plain_fault.is (c.plain_fault.ensures.front m there s refl refl) in
    plain-steps g.R.RowSet m c.args.store.now change there named (is-plain m change there front) front c.log_write.result c.log_write.new.self
    (c.log_write.ensures m there sound s refl)
