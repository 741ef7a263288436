use Rattle.std.proofs.Common.{ap, sym, ◌∙◌, subst}
use Rattle.std.specs.List.{AllByRecursion, flat_map, find}
use Rattle.std.specs.List.Sorted.{IsStrictlySortedBy}
use Rattle.std.specs.Ordering.{is_eq}
use Rattle.sorted_lists.specs.laws.Lists.{each-at}
use Rattle.ingest_tree.specs.Chunks.{joined, place_of}
use Rattle.ingest_tree.specs.Rows.{store_row_cmp, row_at}
use Rattle.ingest_tree.specs.laws.Filling.{stand-sound}
use Rattle.ingest_tree.proofs.PartLemmas.{rising-part, find-child}
use Rattle.ingest_tree.proofs.node.Node.find_in.Goals as goal

pub find-requires-clause-sound : goal.find-requires-clause-sound
find-requires-clause-sound g c =
    let sound = g.T.Piece.sound in
    subst sound (sym c.part_at.ensures)
    (each-at sound (joined c.chunks-chunks.result.now) (place_of c.chunks-chunks.result.now c.seat_of.result.chunk c.seat_of.result.place) c.part_at.result.now
    (subst (AllByRecursion sound) (sym c.chunks-chunks.ensures.parts) (stand-sound g.T.Part.filled sound g.met.T.Part.is_sound c.args.self.now c.requires.stands))
    c.seat_of.ensures.child.within)

pub find-requires-clause-rising : goal.find-requires-clause-rising
find-requires-clause-rising g c =
    rising-part g.T.Piece.rows (joined c.chunks-chunks.result.now) (place_of c.chunks-chunks.result.now c.seat_of.result.chunk c.seat_of.result.place) c.part_at.result.now c.seat_of.ensures.child.within c.part_at.ensures
    (subst (λ ps. IsStrictlySortedBy store_row_cmp (flat_map g.T.Piece.rows ps)) (sym c.chunks-chunks.ensures.parts) c.requires.rising)

pub returns : goal.returns
returns g c =
    c.find.ensures
    ∙ sym (find-child g.T.Piece.rows (joined c.chunks-chunks.result.now) (place_of c.chunks-chunks.result.now c.seat_of.result.chunk c.seat_of.result.place) c.part_at.result.now c.seat_of.ensures.child.within c.part_at.ensures
    (row_at c.args.spot) c.seat_of.ensures.child)
    ∙ ap (λ ps. find (λ row. is_eq (store_row_cmp row (row_at c.args.spot))) (flat_map g.T.Piece.rows ps)) c.chunks-chunks.ensures.parts
