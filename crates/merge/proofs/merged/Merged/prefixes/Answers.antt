use Rattle.std.proofs.Common.{map, ◌∙◌, ap}
use Rattle.std.proofs.lemmas.Result.{IfOk-weaker}
use Rattle.merge.specs.Deletes.{all_deletes}
use Rattle.prefix_delete.specs.Prefixes.{rows_of}
use Rattle.merge.proofs.NewestLemmas.{all-newest}
use Rattle.merge.proofs.merged.Merged.prefixes.Goals as goal

pub returns-clause-newest : goal.returns-clause-newest
returns-clause-newest g c =
    IfOk-weaker c.prefixes.result _ _
    (λ list is.
    ap rows_of
    (is ∙ ap (λ sources. all_deletes (map g.R.RowSet.rows sources)) c.deref.ensures.value ∙ ap (λ m. all_deletes m.sources) c.self.view_is)
    ∙ all-newest c.args.self.now.sources)
    c.prefixes.ensures
