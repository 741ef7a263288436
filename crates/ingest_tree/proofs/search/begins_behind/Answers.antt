use Rattle.std.proofs.Common.{ap, sym, ◌∙◌}
use Rattle.std.specs.Ordering.{nat_cmp, ordering_then, is_gt}
use Rattle.ingest_tree.specs.Rows.{row_at}
use Rattle.ingest_tree.proofs.MarkLemmas.{marks-less, marks-more}
use Rattle.ingest_tree.proofs.search.begins_behind.Goals as goal

pub returns-in-Less : goal.returns-in-Less
returns-in-Less g c row first =
    let mark = c.mark.ensures ∙ g.met.P.Piece.has_mark c.args.piece.now c.requires.sound row first in
    sym (ap is_gt (marks-less row (row_at c.args.spot)
    (sym (λ i. ordering_then (nat_cmp (mark i).id c.args.spot.id) (nat_cmp (mark i).front (c.requires.front i))) ∙ sym c.order.ensures ∙ c.in-Less.is)))

pub returns-in-Greater : goal.returns-in-Greater
returns-in-Greater g c row first =
    let mark = c.mark.ensures ∙ g.met.P.Piece.has_mark c.args.piece.now c.requires.sound row first in
    sym (ap is_gt (marks-more row (row_at c.args.spot)
    (sym (λ i. ordering_then (nat_cmp (mark i).id c.args.spot.id) (nat_cmp (mark i).front (c.requires.front i))) ∙ sym c.order.ensures ∙ c.in-Greater.is)))
