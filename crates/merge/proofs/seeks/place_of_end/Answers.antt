use Rattle.std.proofs.Common.{◌∙◌}
use Rattle.merge.proofs.SeekLemmas.{place-end}
use Rattle.merge.proofs.seeks.place_of_end.Goals as goal

pub returns : goal.returns
returns g c = c.len.ensures ∙ place-end (g.R.RowSet.rows c.args.source.now)
