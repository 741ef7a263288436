use Rattle.std.proofs.Common.{◌==◌, not, ap}
use Rattle.hse_rows.specs.declared.change.ChangeRef.{ChangeRef}
use Rattle.hse_rows.specs.writes.Change.{change_of}
use Rattle.hse_rows.specs.writes.NormalForm.{rank}
use Rattle.hse_rows.specs.rows.RowSets.{row_of}
use Rattle.merge.proofs.TurnLemmas.{first-keyed}
use Rattle.merge.proofs.covers.cover_in.Goals as goal

pub returns-in-Put : goal.returns-in-Put
returns-in-Put g c =
    first-keyed c.args.key.now (g.R.RowSet.rows c.args.source.now) (row_of c.row.result) c.known.ensures.rising c.row.ensures
    (ap (λ (change : ChangeRef). not (rank (change_of change) == 0)) c.in-Put.is)

pub returns-in-Del : goal.returns-in-Del
returns-in-Del g c =
    first-keyed c.args.key.now (g.R.RowSet.rows c.args.source.now) (row_of c.row.result) c.known.ensures.rising c.row.ensures
    (ap (λ (change : ChangeRef). not (rank (change_of change) == 0)) c.in-Del.is)
