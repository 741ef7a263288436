use Rattle.std.proofs.Common.{ap, sym, ◌∙◌, Some}
use Rattle.ingest_tree.specs.Rows.{item_of}
use Rattle.ingest_tree.proofs.RangeLemmas.{less-from, walk-first, walk-last}
use Rattle.ingest_tree.proofs.iter.IngestIterIterator.next.Goals as goal

pub returns-then-self-2-clause-steps : goal.returns-then-self-2-clause-steps
returns-then-self-2-clause-steps c =
    let it = c.args.self.now in
    walk-last it.tree.now it.first it.last (item_of c.item.result) (less-from it.first it.last it.rising c.if-self.false)
    it.back c.if-self-2.true (c.row_at.ensures ∙ ap Some (sym c.item.ensures))

pub returns-clause-steps : goal.returns-clause-steps
returns-clause-steps c =
    let it = c.args.self.now in
    walk-first it.tree.now it.first it.last (item_of c.item-2.result) (less-from it.first it.last it.rising c.if-self.false)
    it.back c.if-self-2.false (c.row_at-row.ensures ∙ ap Some (sym c.item-2.ensures))
