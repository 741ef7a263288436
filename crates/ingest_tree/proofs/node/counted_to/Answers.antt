use Rattle.std.proofs.Common.{◌+◌, ◌<◌, ◌^◌, length, take, ap, sym, ◌∙◌, subst, arith}
use Rattle.std.specs.List.{flat_map}
use Rattle.ingest_tree.specs.Chunks.{joined, place_of}
use Rattle.ingest_tree.proofs.ChunkLemmas.{flat-joined, rows-to, rows-within}
use Rattle.ingest_tree.proofs.PartLemmas.{count-front}
use Rattle.ingest_tree.proofs.node.counted_to.Goals as goal

pub counted_before-requires-clause-fits : goal.counted_before-requires-clause-fits
counted_before-requires-clause-fits g c =
    subst (λ l. length l < 2 ^ 64) (sym (flat-joined g.T.Piece.rows c.args.chunks.now)) c.requires.fits

pub counted_before-requires-2-clause-within : goal.counted_before-requires-2-clause-within
counted_before-requires-2-clause-within g c =
    let small = c.requires.seat.1 c.index-chunks-seat.result in
    let long = ap length (c.parts-parts.ensures ∙ c.index-chunks-seat.is) in
    omega (arith, small, long)

pub counted_before-requires-2-clause-fits : goal.counted_before-requires-2-clause-fits
counted_before-requires-2-clause-fits g c =
    let chunk = c.index-chunks-seat.result in
    let is = c.index-chunks-seat.is in
    let small = subst (λ l. c.args.seat.place < length l) (sym is) (c.requires.seat.1 chunk) in
    let few = rows-within g.T.Piece.rows c.args.chunks.now c.args.seat.chunk c.args.seat.place chunk is c.requires.seat.0 small in
    let same = ap (λ l. length (flat_map g.T.Piece.rows l)) c.parts-parts.ensures in
    let fits = c.requires.fits in
    omega (arith, few, same, fits)

pub overflow_add-result : goal.overflow_add-result
overflow_add-result g c =
    let rows = g.T.Piece.rows in
    let chunk = c.index-chunks-seat.result in
    let is = c.index-chunks-seat.is in
    let small = subst (λ l. c.args.seat.place < length l) (sym is) (c.requires.seat.1 chunk) in
    let sum = rows-to rows c.args.chunks.now c.args.seat.chunk c.args.seat.place chunk is c.requires.seat.0 small in
    let few = count-front rows (joined c.args.chunks.now) (place_of c.args.chunks.now c.args.seat.chunk c.args.seat.place) in
    let one = c.counted_before.ensures in
    let two = c.counted_before-2.ensures ∙ ap (λ l. length (flat_map rows (take c.args.seat.place l))) c.parts-parts.ensures in
    let fits = c.requires.fits in
    omega (arith, sum, few, one, two, fits)

pub returns : goal.returns
returns g c =
    let rows = g.T.Piece.rows in
    let chunk = c.index-chunks-seat.result in
    let is = c.index-chunks-seat.is in
    let small = subst (λ l. c.args.seat.place < length l) (sym is) (c.requires.seat.1 chunk) in
    (λ i. c.counted_before.ensures i + (c.counted_before-2.ensures ∙ ap (λ l. length (flat_map rows (take c.args.seat.place l))) c.parts-parts.ensures) i)
    ∙ rows-to rows c.args.chunks.now c.args.seat.chunk c.args.seat.place chunk is c.requires.seat.0 small
