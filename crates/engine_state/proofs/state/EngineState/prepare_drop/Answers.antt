use Rattle.std.proofs.Common.{◌≡◌, refl, sym, ap, ◌∙◌, subst, arith, ◌+◌, Option, Some}
use Rattle.std.specs.Option.{option_map}
use Rattle.hse_rows.specs.states.State.{Store, store_named}
use Rattle.hse_rows.specs.transactions.Moves as moves
use Rattle.hse_rows.specs.transactions.Timeline.{for_some}
use Rattle.hse_rows.specs.machine.Replies.{no_store}
use Rattle.hse_rows.specs.machine.Core.{now, with_move}
use Rattle.view.specs.Means.{store_in}
use Rattle.engine_state.specs.Serves.{ViewServes}
use Rattle.engine_state.specs.Stores.{SaysDrop, FrontsBy, drop_front}
use Rattle.engine_state.proofs.SoundLemmas.{named-in}
use Rattle.engine_state.proofs.StoreLemmas.{dropped}
use Rattle.engine_state.proofs.StoreTables.{no-store}
use Rattle.engine_state.proofs.state.EngineState.prepare_drop.Goals as goal

pub view_dropped-requires : goal.view_dropped-requires
view_dropped-requires g c = record { number = c.drop_fault.ensures.number c.in_default-drop_fault.is }

pub returns-in_default-clause-prepared : goal.returns-in_default-clause-prepared
returns-in_default-clause-prepared g c m sound s later =
    let view = c.args.self.now.view in
    no-store m c.args.name.now later
    (named-in g.R.RowSet view (now m) s.view.state c.args.name.now ∙ ap (option_map (store_in g.R.RowSet.rows view.layers)) (sym c.in_default.ensures.store))

pub returns-in-Some-drop_fault-clause-prepared : goal.returns-in-Some-drop_fault-clause-prepared
returns-in-Some-drop_fault-clause-prepared g c m sound s later =
    let view = c.args.self.now.view in
    let there : Store = store_in g.R.RowSet.rows view.layers c.in-Some.found.now in
    let named : store_named (now m) c.args.name.now ≡ Some there =
    named-in g.R.RowSet view (now m) s.view.state c.args.name.now ∙ ap (option_map (store_in g.R.RowSet.rows view.layers)) (sym c.in-Some.ensures.store) in
    let front : FrontsBy SaysDrop (Some c.in-Some-drop_fault.fault) (drop_front m there) =
    subst (λ r. FrontsBy SaysDrop r (drop_front m there)) c.in-Some-drop_fault.is (c.drop_fault.ensures.front m there sound s refl) in
    subst (λ (o : Option Store). SaysDrop c.in-Some-drop_fault.fault (for_some o (Some no_store) (λ (store : Store). drop_front m store later))) (sym named) (front later)

pub returns-clause-prepared : goal.returns-clause-prepared
returns-clause-prepared g c m sound s =
    let view = c.args.self.now.view in
    let there : Store = store_in g.R.RowSet.rows view.layers c.in-Some.found.now in
    record {
      store = there;
      named = named-in g.R.RowSet view (now m) s.view.state c.args.name.now ∙ ap (option_map (store_in g.R.RowSet.rows view.layers)) (sym c.in-Some.ensures.store);
      its_id = refl;
      front = subst (λ r. FrontsBy SaysDrop r (drop_front m there)) c.in_default-drop_fault.is (c.drop_fault.ensures.front m there sound s refl);
      serves =
          subst (λ v. ViewServes g.R.RowSet v (with_move m (moves.remove there.id))) (sym c.in-Ok.ensures)
          (dropped g.R.RowSet c.stores_come_and_go.ensures view m c.number-last.ensures.known s.view c.in-Some.found.now.id.0);
    }

pub returns-clause-number : goal.returns-clause-number
returns-clause-number g c = ap (λ v. v.number) c.in-Ok.ensures

pub returns-clause-within : goal.returns-clause-within
returns-clause-within g c =
    let number : c.in-Ok.view.number ≡ c.args.self.now.view.number + 1 = ap (λ v. v.number) c.in-Ok.ensures in
    omega (arith, number, c.drop_fault.ensures.number c.in_default-drop_fault.is)
