use Rattle.std.proofs.Common.{sym, ap, ◌∙◌}
use Rattle.hse_rows.specs.writes.Change.{change_of}
use Rattle.hse_rows.specs.rows.RowSets.{row_of}
use Rattle.cursors.proofs.PairLemmas.{one-pair, put-same, del-none, pdel-none}
use Rattle.cursors.proofs.pair.pair_in.Goals as goal

pub returns-in-Put-clause-pair : goal.returns-in-Put-clause-pair
returns-in-Put-clause-pair g c = λ pair there.
    put-same c.in-Put.key.now c.in-Put.value.now pair
    (sym (ap change_of c.in-Put.is) ∙ one-pair c.args.merged.now.sources c.args.source c.args.at (row_of c.row.result) pair c.row.ensures.row there)

pub returns-in-Del-clause-pair : goal.returns-in-Del-clause-pair
returns-in-Del-clause-pair g c = λ pair there.
    absurd
    (del-none c.in-Del.key.now pair
    (sym (ap change_of c.in-Del.is) ∙ one-pair c.args.merged.now.sources c.args.source c.args.at (row_of c.row.result) pair c.row.ensures.row there))

pub returns-in-PDel-clause-pair : goal.returns-in-PDel-clause-pair
returns-in-PDel-clause-pair g c = λ pair there.
    absurd
    (pdel-none c.in-PDel.prefix.now pair
    (sym (ap change_of c.in-PDel.is) ∙ one-pair c.args.merged.now.sources c.args.source c.args.at (row_of c.row.result) pair c.row.ensures.row there))
