use Rattle.std.proofs.Common.{◌≡◌, List, sym, subst, IfOk}
use Rattle.view.specs.declared.view_store.ViewStore.{ViewStore}
use Rattle.view.specs.Means.{IsView}
use Rattle.engine_state.specs.Stores.{with_stores}
use Rattle.engine_state.proofs.StoreLemmas.{new-view, whole-stores}
use Rattle.engine_state.proofs.views.view_created.Goals as goal

pub view_with-requires-clause-is : goal.view_with-requires-clause-is
view_with-requires-clause-is g c =
    let view = c.args.view.now in
    let all =
    whole-stores view c.in_ok-kept.kept.items c.push.new.self.items c.stores.result.now c.number-number.result c.in_ok-text.text c.args.name.now c.args.mode c.args.prefix
    c.empty.result c.in_ok-push.ensures.items c.in_ok-kept.ensures c.stores.ensures c.number-number.ensures.number c.in_ok-text.ensures c.empty.ensures in
    subst (λ (l : List (ViewStore _)). IsView g.R.RowSet.rows (with_stores view l)) (sym all)
    (new-view g.R.RowSet.rows c.stores_come_and_go.ensures view c.args.name.now c.args.mode c.args.prefix c.number-number.ensures.known c.requires.named)

pub returns : goal.returns
returns g c =
    let view = c.args.view.now in
    let all =
    whole-stores view c.in_ok-kept.kept.items c.push.new.self.items c.stores.result.now c.number-number.result c.in_ok-text.text c.args.name.now c.args.mode c.args.prefix
    c.empty.result c.in_ok-push.ensures.items c.in_ok-kept.ensures c.stores.ensures c.number-number.ensures.number c.in_ok-text.ensures c.empty.ensures in
    subst (λ (l : List (ViewStore _)). IfOk c.view_with.result (λ after. after ≡ with_stores view l)) all c.view_with.ensures
