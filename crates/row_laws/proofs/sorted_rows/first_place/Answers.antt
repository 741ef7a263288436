use Rattle.hse_rows.specs.rows.RowSets.{key_row}
use Rattle.row_laws.proofs.RowSetLemmas.{place-found, place-missing, place-searched}
use Rattle.row_laws.proofs.sorted_rows.first_place.Goals as goal

pub returns-in-Ok : goal.returns-in-Ok
returns-in-Ok c =
    place-found c.args.edge.now c.args.rows.now c.in-Ok.at (key_row c.args.edge.now) c.requires c.in-Ok.ensures.bound
    (c.in-Ok.ensures.position (key_row c.args.edge.now))

pub returns-in-Err : goal.returns-in-Err
returns-in-Err c =
    place-missing c.args.edge.now c.args.rows.now c.in-Err.at
    (place-searched c.args.edge.now c.args.rows.now c.in-Err.at c.requires c.in-Err.ensures.bound c.in-Err.ensures.position)
