use Rattle.std.proofs.Common.{arith}
use Rattle.std.proofs.lemmas.Result.{err_from_is_err_and}
use Rattle.hse_fields.specs.laws.Fields.{number_length}
use Rattle.hse_fields.specs.BlockGiven.{lent}
use Rattle.kblock.proofs.ReadingLoops.{keys_behind, keys_refused_inside, zeros_inside}
use Rattle.kblock.proofs.page.page_end.Goals as goal

pub returns-in_err-end-clause-inside : goal.returns-in_err-end-clause-inside
returns-in_err-end-clause-inside c =
    let p = err_from_is_err_and c.from_residual-in_err-end.result c.from_residual-in_err-end.ensures.1 in
    let refused = keys_refused_inside (lent c.args.last) c.in_ok-count.count c.in_err-end.field-0.0.left c.in_ok-count.rest.now c.in_err-end.ensures in
    let read = number_length 2 c.args.page.now (c.in_ok-count.count, c.in_ok-count.rest.now) c.in_ok-count.ensures in
    rw (p.1, p.2) (omega (arith, refused, read))

pub returns-in_err-zeros-clause-inside : goal.returns-in_err-zeros-clause-inside
returns-in_err-zeros-clause-inside c =
    let p = err_from_is_err_and c.from_residual-in_err-zeros.result c.from_residual-in_err-zeros.ensures.1 in
    let read = number_length 2 c.args.page.now (c.in_ok-count.count, c.in_ok-count.rest.now) c.in_ok-count.ensures in
    let behind = keys_behind (lent c.args.last) (lent c.in_ok-end.end) c.in_ok-count.count c.in_ok-count.rest.now c.in_ok-end.rest.now c.in_ok-end.ensures in
    let refused = zeros_inside c.in_ok-end.rest.now c.in_err-zeros.field-0.0.left c.in_err-zeros.ensures in
    rw (p.1, p.2) (omega (arith, refused, behind, read))
