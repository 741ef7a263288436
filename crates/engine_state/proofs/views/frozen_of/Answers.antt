use Rattle.std.proofs.Common.{◌<◌, ◌+◌, ◌++◌, sym, ap, ◌∙◌, subst, arith, List, drop}
use Rattle.ingest_tree.specs.declared.store_row.StoreRow.{StoreRow}
use Rattle.engine_state.proofs.StoreLemmas.{layer-step, layer-end, no-layer}
use Rattle.engine_state.proofs.views.frozen_of.Goals.{in-Some+in_ok-add_layer, in_default}
use Rattle.engine_state.proofs.views.frozen_of.Goals as goal

pub loop-place-preserved : goal.loop-place-preserved
loop-place-preserved g c = elim c.match-layer.branch [
  | in-Some+in_ok-add_layer w ↦
      ap (λ frozen. frozen.items ++ drop (c.loop-place.place + 1) c.args.view.now.layers) w.frozen-is
      ∙ ap (λ (l : List (List StoreRow)). l ++ drop (c.loop-place.place + 1) c.args.view.now.layers) w.in_ok-add_layer.ensures
      ∙ layer-step c.loop-place.frozen.items c.args.view.now.layers c.loop-place.place w.in-Some.layer.now (sym w.in-Some.ensures)
      ∙ c.loop-place.invariant
  | in_default w ↦
      absurd
      (no-layer c.args.view.now.layers c.loop-place.place
      (subst (λ n. c.loop-place.place < n) c.layers-place-end.ensures c.loop-place-test.true) (sym w.in_default.ensures))
]

pub returns : goal.returns
returns g c =
    sym (layer-end c.loop-place.frozen.items c.args.view.now.layers c.loop-place.place (omega (arith, c.layers-place-end.ensures, c.loop-place-test.false)))
    ∙ c.loop-place.invariant
