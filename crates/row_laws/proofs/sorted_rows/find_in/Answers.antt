use Rattle.std.proofs.Common.{◌∙◌, sym, ap, Some}
use Rattle.row_laws.proofs.RowSetLemmas.{own-found, own-missing, place-searched}
use Rattle.row_laws.proofs.sorted_rows.find_in.Goals as goal

pub returns-in-Ok : goal.returns-in-Ok
returns-in-Ok c =
    ap Some (c.lent.ensures ∙ c.index-rows-at.is)
    ∙ sym (own-found c.args.key.now c.args.rows.now c.in-Ok.at _ c.requires c.in-Ok.ensures.bound (c.in-Ok.ensures.position _))

pub returns-in-Err : goal.returns-in-Err
returns-in-Err c =
    sym (own-missing c.args.key.now c.args.rows.now c.in-Err.field-0
    (place-searched c.args.key.now c.args.rows.now c.in-Err.field-0 c.requires c.in-Err.ensures.bound c.in-Err.ensures.position))
