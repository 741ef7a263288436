use Rattle.std.proofs.Common.{get_or, ap, sym, ◌∙◌}
use Rattle.ingest_tree.proofs.ChunkLemmas.{item-in}
use Rattle.ingest_tree.proofs.chunk.part_at.Goals as goal

pub returns : goal.returns
returns g c =
    let cs = c.args.chunks.now in
    let i = c.args.seat.chunk in
    let j = c.args.seat.place in
    let chunk = c.index-chunks-seat.result in
    let part = c.index-parts-seat.result in
    c.index-parts-seat.is
    ∙ ap (λ l. get_or l j part) (c.parts.ensures ∙ c.index-chunks-seat.is)
    ∙ sym (item-in cs i j chunk part c.requires.0 (c.requires.1 chunk))
