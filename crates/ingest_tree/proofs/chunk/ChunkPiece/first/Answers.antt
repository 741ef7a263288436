use Rattle.std.proofs.Common.{◌<◌, length, ap, sym, ◌∙◌, subst}
use Rattle.std.specs.List.{AllByRecursion, flat_map, slice_get}
use Rattle.sorted_lists.specs.laws.Lists.{each-at}
use Rattle.ingest_tree.proofs.PartLemmas.{get-child}
use Rattle.ingest_tree.proofs.chunk.ChunkPiece.first.Goals as goal

pub bounds-parts-0 : goal.bounds-parts-0
bounds-parts-0 g c = subst (λ l. 0 < length l) (sym c.parts.ensures) c.requires.0

pub first-requires : goal.first-requires
first-requires g c =
    let sound = g.T.Piece.sound in
    subst sound (sym c.index-parts-0.is)
    (each-at sound c.parts.result.now 0 c.index-parts-0.result (subst (AllByRecursion sound) (sym c.parts.ensures) c.requires.1)
    (subst (λ l. 0 < length l) (sym c.parts.ensures) c.requires.0))

pub returns : goal.returns
returns g c =
    let rows = g.T.Piece.rows in
    ap (λ l. slice_get (flat_map rows l) 0) (sym c.parts.ensures)
    ∙ get-child rows c.parts.result.now 0 c.index-parts-0.result
    (subst (λ l. 0 < length l) (sym c.parts.ensures) c.requires.0)
    c.index-parts-0.is 0 c.first.result.now c.first.ensures
