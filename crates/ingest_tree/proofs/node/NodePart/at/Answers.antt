use Rattle.std.proofs.Common.{◌≡◌, ◌-◌, ◌<◌, Some, length, ap, sym, ◌∙◌, subst, arith}
use Rattle.std.specs.List.{flat_map, slice_get}
use Rattle.ingest_tree.proofs.ChunkLemmas.{flat-joined}
use Rattle.ingest_tree.proofs.PartLemmas.{get-child}
use Rattle.ingest_tree.proofs.node.NodePart.at.Goals as goal

pub piece_over-at-requires : goal.piece_over-at-requires
piece_over-at-requires g c =
    let rows = g.T.Piece.rows in
    subst (λ l. c.args.place < length l) (sym (flat-joined rows c.chunks-chunks.result.now ∙ ap (flat_map rows) c.chunks-chunks.ensures.parts)) c.requires

pub piece_over-part-requires : goal.piece_over-part-requires
piece_over-part-requires g c =
    let rows = g.T.Piece.rows in
    let over = c.piece_over-at.ensures in
    let from = over.from in
    let inside = over.inside c.index-chunks-at.result in
    let same = ap (λ l. length (flat_map rows l)) (c.parts-parts.ensures ∙ c.index-chunks-at.is) in
    omega (arith, from, inside, same)

pub at-requires : goal.at-requires
at-requires g c =
    let rows = g.T.Piece.rows in
    let over = c.piece_over-part.ensures in
    let from = over.from in
    let inside = over.inside c.index-parts-part.result in
    let same = ap (λ p. length (rows p)) c.index-parts-part.is in
    omega (arith, from, inside, same)

pub returns : goal.returns
returns g c =
    let rows = g.T.Piece.rows in
    let cs = c.chunks-chunks.result.now in
    let chunk = c.index-chunks-at.result in
    let part = c.index-parts-part.result in
    let over = c.piece_over-at.ensures in
    let over-2 = c.piece_over-part.ensures in
    let from = over.from in
    let counted = over.counted in
    let from-2 = over-2.from in
    let counted-2 = over-2.counted in
    let place = c.args.place in
    let before = c.piece_over-at.result.1 in
    let within = c.piece_over-part.result.1 in
    let same = c.parts-parts.ensures in
    let inner : slice_get (flat_map rows chunk) (place - before) ≡ Some c.at.result.now =
    subst (λ l. slice_get (flat_map rows l) (place - before) ≡ Some c.at.result.now) same
    (ap (slice_get (flat_map rows c.parts-parts.result.now)) (omega (arith, from-2, counted-2))
    ∙ get-child rows c.parts-parts.result.now c.piece_over-part.result.0 part over-2.within c.index-parts-part.is (place - before - within) c.at.result.now c.at.ensures) in
    ap (λ l. slice_get l place) (sym (flat-joined rows cs ∙ ap (flat_map rows) c.chunks-chunks.ensures.parts))
    ∙ ap (slice_get (flat_map (λ c. flat_map rows c) cs)) (omega (arith, from, counted))
    ∙ get-child (λ c. flat_map rows c) cs c.piece_over-at.result.0 chunk over.within c.index-chunks-at.is (place - before) c.at.result.now inner
