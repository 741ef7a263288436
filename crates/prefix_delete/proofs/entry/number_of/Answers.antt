use Rattle.std.proofs.Common.{sym, ap}
use Rattle.prefix_delete.specs.Prefixes.{number_in}
use Rattle.prefix_delete.proofs.EntryLemmas.{found-at, missing-place, missing-at}
use Rattle.prefix_delete.proofs.entry.number_of.Goals as goal

pub returns-in-Ok : goal.returns-in-Ok
returns-in-Ok c =
    sym (ap number_in (found-at c.args.prefix.now c.args.entries.now c.requires c.in-Ok.at c.index-entries-at.result c.in-Ok.ensures.bound (c.in-Ok.ensures.position _)))

pub returns-in-Err : goal.returns-in-Err
returns-in-Err c =
    sym (ap number_in (missing-at c.args.prefix.now c.args.entries.now c.requires c.in-Err.field-0
    (missing-place c.args.prefix.now c.args.entries.now c.requires c.in-Err.field-0 c.in-Err.ensures.bound c.in-Err.ensures.position)))
