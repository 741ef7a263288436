use Rattle.std.proofs.Common.{◌≡◌, ◌+◌, ◌<◌, length, ap, sym, ◌∙◌, subst, arith}
use Rattle.std.specs.List.{AllByRecursion, flat_map, filter}
use Rattle.std.specs.List.Sorted.{IsStrictlySortedBy}
use Rattle.std.specs.Ordering.{is_lt}
use Rattle.sorted_lists.specs.laws.Lists.{each-at}
use Rattle.ingest_tree.specs.declared.store_row.StoreRow.{StoreRow}
use Rattle.ingest_tree.specs.Chunks.{joined, place_of}
use Rattle.ingest_tree.specs.Rows.{store_row_cmp, row_at}
use Rattle.ingest_tree.specs.laws.Filling.{stand-sound, stand-some}
use Rattle.ingest_tree.proofs.PartLemmas.{rising-part, count-child, filter-shorter}
use Rattle.ingest_tree.proofs.node.Node.place_in.Goals as goal

pub place-requires-clause-sound : goal.place-requires-clause-sound
place-requires-clause-sound g c =
    let sound = g.T.Piece.sound in
    subst sound (sym c.part_at.ensures)
    (each-at sound (joined c.chunks-chunks.result.now) (place_of c.chunks-chunks.result.now c.seat_of-seat.result.chunk c.seat_of-seat.result.place) c.part_at.result.now
    (subst (AllByRecursion sound) (sym c.chunks-chunks.ensures.parts) (stand-sound g.T.Part.filled sound g.met.T.Part.is_sound c.args.self.now c.requires.stands))
    c.seat_of-seat.ensures.child.within)

pub seat_of-seat-requires-clause-some : goal.seat_of-seat-requires-clause-some
seat_of-seat-requires-clause-some g c =
    subst (λ l. 0 < length l) (sym c.chunks-chunks.ensures.parts)
    (stand-some g.T.Part.filled g.T.Piece.sound g.met.T.Part.is_sound c.args.self.now c.requires.stands)

pub seat_of-seat-requires-clause-sound : goal.seat_of-seat-requires-clause-sound
seat_of-seat-requires-clause-sound g c =
    subst (AllByRecursion g.T.Piece.sound) (sym c.chunks-chunks.ensures.parts)
    (stand-sound g.T.Part.filled g.T.Piece.sound g.met.T.Part.is_sound c.args.self.now c.requires.stands)

pub counted_to-requires-clause-fits : goal.counted_to-requires-clause-fits
counted_to-requires-clause-fits g c =
    let all : length (flat_map g.T.Piece.rows (joined c.chunks-chunks.result.now)) ≡ c.self.inside.count =
    ap (λ ps. length (flat_map g.T.Piece.rows ps)) (c.chunks-chunks.ensures.parts ∙ sym c.self.view_is) ∙ sym c.self.invariant.2 in
    omega (arith, all, c.self.known-fits)

pub place-requires-clause-rising : goal.place-requires-clause-rising
place-requires-clause-rising g c =
    rising-part g.T.Piece.rows (joined c.chunks-chunks.result.now) (place_of c.chunks-chunks.result.now c.seat_of-seat.result.chunk c.seat_of-seat.result.place) c.part_at.result.now c.seat_of-seat.ensures.child.within c.part_at.ensures
    (subst (λ ps. IsStrictlySortedBy store_row_cmp (flat_map g.T.Piece.rows ps)) (sym c.chunks-chunks.ensures.parts) c.requires.rising)

pub overflow_add-result : goal.overflow_add-result
overflow_add-result g c =
    let rows = g.T.Piece.rows in
    let before = λ (row : StoreRow). is_lt (store_row_cmp row (row_at c.args.spot)) in
    let ps = joined c.chunks-chunks.result.now in
    let sum = count-child rows ps (place_of c.chunks-chunks.result.now c.seat_of-seat.result.chunk c.seat_of-seat.result.place) c.part_at.result.now c.seat_of-seat.ensures.child.within c.part_at.ensures
    (row_at c.args.spot) c.seat_of-seat.ensures.child in
    let short = filter-shorter before (flat_map rows ps) in
    let one = c.counted_to.ensures in
    let two = c.place.ensures in
    let all : length (flat_map rows ps) ≡ c.self.inside.count =
    ap (λ ps. length (flat_map rows ps)) (c.chunks-chunks.ensures.parts ∙ sym c.self.view_is) ∙ sym c.self.invariant.2 in
    omega (arith, sum, short, one, two, all, c.self.known-fits)

pub returns : goal.returns
returns g c =
    (λ i. c.counted_to.ensures i + c.place.ensures i)
    ∙ sym (count-child g.T.Piece.rows (joined c.chunks-chunks.result.now) (place_of c.chunks-chunks.result.now c.seat_of-seat.result.chunk c.seat_of-seat.result.place) c.part_at.result.now c.seat_of-seat.ensures.child.within c.part_at.ensures
    (row_at c.args.spot) c.seat_of-seat.ensures.child)
    ∙ ap (λ ps. length (filter (λ row. is_lt (store_row_cmp row (row_at c.args.spot))) (flat_map g.T.Piece.rows ps))) c.chunks-chunks.ensures.parts
