use Rattle.std.proofs.Common.{◌≡◌, sym, ap, ◌∙◌, take, ◌+◌, suc, arith}
use Rattle.std.proofs.lemmas.List.{take_all}
use Rattle.ingest_tree.specs.Rows.{store_row, row_numbered, rows_with}
use Rattle.view.specs.Commits.{with_writes}
use Rattle.engine_state.proofs.LayerLemmas.{with_writes-more}
use Rattle.engine_state.proofs.layers.layer_with.Goals as goal

pub loop-place-init : goal.loop-place-init
loop-place-init c = c.in_ok-tree.ensures

pub loop-place-preserved : goal.loop-place-preserved
loop-place-preserved c =
    let w = c.write-write.result.now in
    let next : c.loop-place.place + 1 ≡ suc c.loop-place.place = omega arith in
    let layer = with_writes c.args.number c.args.layer.now (take c.loop-place.place c.args.writes.now) in
    c.in_ok-tree-2.ensures
    ∙ ap (λ t. rows_with t (store_row w.store (row_numbered c.args.number c.in_ok-share.field-0))) c.loop-place.invariant
    ∙ ap (λ ch. rows_with layer (store_row w.store (row_numbered c.args.number ch))) c.in_ok-share.ensures
    ∙ sym (ap (λ n. with_writes c.args.number c.args.layer.now (take n c.args.writes.now)) next ∙ with_writes-more c.args.number c.args.layer.now c.args.writes.now c.loop-place.place w c.write-write.ensures)

pub returns : goal.returns
returns c =
    c.loop-place.invariant
    ∙ ap (with_writes c.args.number c.args.layer.now)
    (take_all c.loop-place.place c.args.writes.now (omega (arith, c.len-place-end.ensures.count, c.loop-place-test.false)))
