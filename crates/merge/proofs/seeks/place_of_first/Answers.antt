use Rattle.std.proofs.Common.{◌∙◌}
use Rattle.merge.proofs.SeekLemmas.{place-front}
use Rattle.merge.proofs.seeks.place_of_first.Goals as goal

pub returns : goal.returns
returns g c = c.place.ensures ∙ place-front (g.R.RowSet.rows c.args.source.now)
