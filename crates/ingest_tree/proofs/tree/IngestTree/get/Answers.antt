use Rattle.std.proofs.Common.{Some, ap, sym, ◌∙◌}
use Rattle.std.specs.Option.{option_map}
use Rattle.ingest_tree.specs.declared.store_row.StoreRow.{StoreRow}
use Rattle.ingest_tree.proofs.WalkLemmas.{own-walk}
use Rattle.ingest_tree.proofs.tree.IngestTree.get.Goals as goal

pub returns-in-None : goal.returns-in-None
returns-in-None c =
    ap (option_map (λ (r : StoreRow). r.row)) c.in-None.ensures.row
    ∙ sym (own-walk c.args.store c.args.key.now c.args.self.now c.in-None.ensures.rising)

pub returns-in-Some : goal.returns-in-Some
returns-in-Some c =
    ap Some c.lent.ensures
    ∙ ap (option_map (λ (r : StoreRow). r.row)) c.in-Some.ensures.row
    ∙ sym (own-walk c.args.store c.args.key.now c.args.self.now c.in-Some.ensures.rising)
