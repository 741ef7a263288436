use Rattle.std.proofs.Common.{◌≡◌, drop, map}
use Rattle.ingest_tree.specs.Rows.{rows_in}
use Rattle.row_laws.specs.Sources.{first_said}
use Rattle.view.proofs.layer.first_word.Given as goal

-- what the rest says first is what all say first
abbrev pub invariant-loop-layer : goal.invariant-loop-layer
invariant-loop-layer l =
    first_said l.fn.key (map (rows_in l.fn.store.0) (drop l.layer-index l.layers)) ≡ first_said l.fn.key (map (rows_in l.fn.store.0) l.fn.layers)
