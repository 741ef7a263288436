use Rattle.std.proofs.Common.{map, sym, ap, ◌∙◌}
use Rattle.std.proofs.lemmas.List.{drop_all}
use Rattle.row_laws.specs.Sources.{all_rows}
use Rattle.merge.specs.Deletes.{with_deletes, all_deletes}
use Rattle.merge.proofs.prefixes.prefixes.Goals as goal

pub returns : goal.returns
unfolding all_deletes
returns g c =
    sym (ap (λ sources. with_deletes c.loop-source.list (all_rows (map g.R.RowSet.rows sources)))
    (drop_all c.loop-source.source-index c.args.sources.now c.loop-source-test.false))
    ∙ c.loop-source.invariant
