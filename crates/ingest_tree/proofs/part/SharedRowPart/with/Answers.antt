use Rattle.std.proofs.Common.{[], ◌∷◌, ap, sym, ◌∙◌}
use Rattle.ingest_tree.specs.declared.store_row.StoreRow.{StoreRow}
use Rattle.ingest_tree.specs.Rows.{row_at}
use Rattle.ingest_tree.proofs.OrderLemmas.{alike, with_tied, with_above, with_below}
use Rattle.ingest_tree.proofs.part.SharedRowPart.with.Goals as goal

pub returns-in-Equal-clause-rows : goal.returns-in-Equal-clause-rows
returns-in-Equal-clause-rows g c =
    sym (with_tied c.args.self.now c.args.row
    (alike c.args.self.now c.args.row (row_at c.spot.result) (row_at c.spot-2.result)
    (ap (λ (r : StoreRow). r.store) (sym c.row.ensures) ∙ sym c.spot.ensures.store)
    (ap (λ (r : StoreRow). r.row.change) (sym c.row.ensures) ∙ sym c.spot.ensures.change)
    (ap (λ (r : StoreRow). r.store) (sym c.row-3.ensures) ∙ sym c.spot-2.ensures.store)
    (ap (λ (r : StoreRow). r.row.change) (sym c.row-3.ensures) ∙ sym c.spot-2.ensures.change)
    ∙ sym c.order.ensures ∙ c.in-Equal.is))

pub returns-in_ok-twin-in-Less-clause-rows : goal.returns-in_ok-twin-in-Less-clause-rows
returns-in_ok-twin-in-Less-clause-rows g c =
    ap (λ r. r ∷ c.args.row ∷ []) (c.in_ok-twin-in-Less.ensures)
    ∙ sym (with_above c.args.self.now c.args.row
    (alike c.args.self.now c.args.row (row_at c.spot.result) (row_at c.spot-2.result)
    (ap (λ (r : StoreRow). r.store) (sym c.row.ensures) ∙ sym c.spot.ensures.store)
    (ap (λ (r : StoreRow). r.row.change) (sym c.row.ensures) ∙ sym c.spot.ensures.change)
    (ap (λ (r : StoreRow). r.store) (sym c.row-3.ensures) ∙ sym c.spot-2.ensures.store)
    (ap (λ (r : StoreRow). r.row.change) (sym c.row-3.ensures) ∙ sym c.spot-2.ensures.change)
    ∙ sym c.order.ensures ∙ c.in-Less.is))

pub returns-in_ok-twin-in-Greater-clause-rows : goal.returns-in_ok-twin-in-Greater-clause-rows
returns-in_ok-twin-in-Greater-clause-rows g c =
    ap (λ r. c.args.row ∷ r ∷ []) (c.in_ok-twin-in-Greater.ensures)
    ∙ sym (with_below c.args.self.now c.args.row
    (alike c.args.self.now c.args.row (row_at c.spot.result) (row_at c.spot-2.result)
    (ap (λ (r : StoreRow). r.store) (sym c.row.ensures) ∙ sym c.spot.ensures.store)
    (ap (λ (r : StoreRow). r.row.change) (sym c.row.ensures) ∙ sym c.spot.ensures.change)
    (ap (λ (r : StoreRow). r.store) (sym c.row-3.ensures) ∙ sym c.spot-2.ensures.store)
    (ap (λ (r : StoreRow). r.row.change) (sym c.row-3.ensures) ∙ sym c.spot-2.ensures.change)
    ∙ sym c.order.ensures ∙ c.in-Greater.is))
