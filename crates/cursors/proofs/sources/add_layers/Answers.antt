use Rattle.std.proofs.Common.{◌++◌, ◌∷◌, [], List, map, take, sym, ap, ◌∙◌, subst, append_assoc, ◌<◌}
use Rattle.hse_rows.specs.declared.row.Row.{Row}
use Rattle.ingest_tree.specs.Rows.{rows_in}
use Rattle.cursors.specs.Sources.{source_rows}
use Rattle.cursors.proofs.SourceLemmas.{take-more, none-within}
use Rattle.cursors.proofs.sources.add_layers.Goals.{in-Some+in_ok-add_layer, in_default}
use Rattle.cursors.proofs.sources.add_layers.Goals as goal

pub loop-at-preserved : goal.loop-at-preserved
loop-at-preserved g c = elim c.match-layer.branch [
  | in-Some+in_ok-add_layer w ↦
      ap (λ sources. map (source_rows g.R.RowSet.rows) sources.items) w.sources-is
      ∙ w.in_ok-add_layer.ensures
      ∙ ap (λ (l : List (List Row)). l ++ rows_in c.args.store.0 w.in-Some.layer.now ∷ []) c.loop-at.invariant
      ∙ append_assoc (map (source_rows g.R.RowSet.rows) c.args.sources.now.items) (map (rows_in c.args.store.0) (take c.loop-at.at c.args.view.now.layers)) (rows_in c.args.store.0 w.in-Some.layer.now ∷ [])
      ∙ ap (λ (l : List (List Row)). map (source_rows g.R.RowSet.rows) c.args.sources.now.items ++ l)
      (sym (take-more (rows_in c.args.store.0) c.args.view.now.layers c.loop-at.at w.in-Some.layer.now (sym w.in-Some.ensures)))
  | in_default w ↦
      absurd
      (none-within c.args.view.now.layers c.loop-at.at (subst (λ n. c.loop-at.at < n) c.layers-at-end.ensures c.loop-at-test.true) (sym w.in_default.ensures))
]
