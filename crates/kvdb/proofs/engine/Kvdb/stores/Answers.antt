use Rattle.std.proofs.Common.{◌<◌, ◌∙◌, length, map, sym, ap, arith}
use Rattle.hse_rows.specs.machine.Core.{now}
use Rattle.hse_rows.specs.machine.Replies as answer
use Rattle.kvset.specs.Parts.{contents_rows}
use Rattle.kvdb.specs.Listing.{line_as}
use Rattle.kvdb.proofs.ListingLemmas.{all_put, lines_by_name}
use Rattle.kvdb.proofs.engine.Kvdb.stores.Goals as goal

pub returns : goal.returns
returns g c m s =
    let few : length c.loop-rest.rest.now < 1 = omega (arith, c.in_default.len_below) in
    ap answer.listed
    (sym (lines_by_name contents_rows c.args.self.now.state.view (now m) s.state.view.state)
    ∙ ap (map line_as) (sym (all_put c.loop-rest.lines.items c.loop-rest.rest.now _ few c.loop-rest.invariant)))
