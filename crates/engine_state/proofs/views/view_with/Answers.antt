use Rattle.std.proofs.Common.{◌≡◌, ◌+◌, ◌∷◌, sym, subst, IfOk}
use Rattle.view.specs.Views.{ViewState, rest_of, view_of}
use Rattle.view.specs.Means.{IsView}
use Rattle.engine_state.specs.Stores.{with_stores}
use Rattle.engine_state.proofs.StoreLemmas.{whole-layers}
use Rattle.engine_state.proofs.views.view_with.Goals as goal

pub of-requires : goal.of-requires
of-requires g c =
    let view = c.args.view.now in
    let layers : c.in_ok-active.active ∷ c.in_ok-frozen.frozen.items ≡ view.layers =
    whole-layers view.layers c.in_ok-frozen.frozen.items c.in_ok-active.active c.in-Some.layer.now c.in-Some.ensures c.in_ok-active.ensures c.in_ok-frozen.ensures in
    let same : with_stores view c.args.stores.items ≡ view_of (c.number-number.result + 1) c.in_ok-active.active (rest_of c.args.stores.items c.in_ok-frozen.frozen.items) =
    λ i. record { number = sym c.number-number.ensures.number i + 1; stores = c.args.stores.items; layers = sym layers i } in
    subst (λ (v : ViewState _). IsView g.R.RowSet.rows v) same c.requires.is

pub returns : goal.returns
returns g c =
    let view = c.args.view.now in
    let layers : c.in_ok-active.active ∷ c.in_ok-frozen.frozen.items ≡ view.layers =
    whole-layers view.layers c.in_ok-frozen.frozen.items c.in_ok-active.active c.in-Some.layer.now c.in-Some.ensures c.in_ok-active.ensures c.in_ok-frozen.ensures in
    let same : view_of (c.number-number.result + 1) c.in_ok-active.active (rest_of c.args.stores.items c.in_ok-frozen.frozen.items) ≡ with_stores view c.args.stores.items =
    λ i. record { number = c.number-number.ensures.number i + 1; stores = c.args.stores.items; layers = layers i } in
    subst (λ (v : ViewState _). IfOk c.of.result (λ after. after ≡ v)) same c.of.ensures
