use Rattle.std.proofs.Common.{◌≡◌, List, sym, ap, ◌∙◌, subst, IfOk}
use Rattle.view.specs.declared.view_store.ViewStore.{ViewStore}
use Rattle.view.specs.Means.{IsView}
use Rattle.engine_state.specs.Stores.{but, with_stores}
use Rattle.engine_state.proofs.views.view_dropped.Goals as goal

pub view_with-requires-clause-is : goal.view_with-requires-clause-is
view_with-requires-clause-is g c =
    let view = c.args.view.now in
    let all : c.in_ok-kept.kept.items ≡ but c.args.id.0 view.stores = c.in_ok-kept.ensures ∙ ap (but c.args.id.0) c.stores.ensures in
    subst (λ (l : List (ViewStore _)). IsView g.R.RowSet.rows (with_stores view l)) (sym all)
    (c.stores_come_and_go.ensures.go view c.args.id.0 c.number-last.ensures.known).0

pub returns : goal.returns
returns g c =
    let view = c.args.view.now in
    let all : c.in_ok-kept.kept.items ≡ but c.args.id.0 view.stores = c.in_ok-kept.ensures ∙ ap (but c.args.id.0) c.stores.ensures in
    subst (λ (l : List (ViewStore _)). IfOk c.view_with.result (λ after. after ≡ with_stores view l)) all c.view_with.ensures
