use Rattle.std.proofs.Common.{Some, None, refl}
use Rattle.hse_rows.specs.rows.RowSets.{row_of}
use Rattle.merge.proofs.merged.Merged.next.Goals as goal

pub returns-in-None : goal.returns-in-None
returns-in-None g c = ((refl, λ _. tt, c.in-None.ensures.goes None tt), record { row = c.in-None.ensures.row None tt; after = tt })

pub returns-in-Some : goal.returns-in-Some
returns-in-Some g c = (
  (refl, λ _. tt, c.in-Some.ensures.goes (Some (row_of c.row.result)) c.row.ensures.row),
  record { row = c.in-Some.ensures.row (Some (row_of c.row.result)) c.row.ensures.row; after = tt },
)
