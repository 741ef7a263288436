use Rattle.std.proofs.Common.{◌<◌, ◌∷◌, [], None, Some, length, ap, sym, ◌∙◌, subst, arith, append-nil}
use Rattle.std.specs.List.{AllByRecursion, flat_map}
use Rattle.std.specs.List.Sorted.{IsStrictlySortedBy}
use Rattle.std.proofs.lemmas.Result.{IfOk-weaker}
use Rattle.sorted_lists.specs.Places.{with_one}
use Rattle.sorted_lists.specs.laws.Lists.{each-at}
use Rattle.ingest_tree.specs.declared.store_row.StoreRow.{StoreRow}
use Rattle.ingest_tree.specs.Chunks.{joined, place_of}
use Rattle.ingest_tree.specs.Rows.{store_row_cmp, row_at}
use Rattle.ingest_tree.specs.Parts.{parts_of, Grows, IsFilledNode, IsSoundNode, IsChild}
use Rattle.ingest_tree.specs.laws.Filling.{stand-sound, stand-some}
use Rattle.ingest_tree.proofs.PartLemmas.{rising-part, with-grown, child-alike}
use Rattle.ingest_tree.proofs.GrowthLemmas.{finished-rows, length-grown, node-grows, one-grows}
use Rattle.ingest_tree.proofs.node.NodePart.with.Goals as goal

pub seat_of-seat-requires-clause-some : goal.seat_of-seat-requires-clause-some
seat_of-seat-requires-clause-some g c =
    subst (λ l. 0 < length l) (sym c.chunks-chunks.ensures.parts)
    (stand-some g.T.Part.filled g.T.Piece.sound g.met.T.Part.is_sound c.args.self.now c.requires.sound.1)

pub seat_of-seat-requires-clause-sound : goal.seat_of-seat-requires-clause-sound
seat_of-seat-requires-clause-sound g c =
    subst (AllByRecursion g.T.Piece.sound) (sym c.chunks-chunks.ensures.parts)
    (stand-sound g.T.Part.filled g.T.Piece.sound g.met.T.Part.is_sound c.args.self.now c.requires.sound.1)

pub with-requires-clause-rising : goal.with-requires-clause-rising
with-requires-clause-rising g c =
    rising-part g.T.Piece.rows (joined c.chunks-chunks.result.now) (place_of c.chunks-chunks.result.now c.seat_of-seat.result.chunk c.seat_of-seat.result.place) c.part_at.result.now c.seat_of-seat.ensures.child.within c.part_at.ensures
    (subst (λ ps. IsStrictlySortedBy store_row_cmp (flat_map g.T.Piece.rows ps)) (sym c.chunks-chunks.ensures.parts) c.requires.rising)

pub with-requires-clause-sound : goal.with-requires-clause-sound
with-requires-clause-sound g c =
    let sound = g.T.Piece.sound in
    subst sound (sym c.part_at.ensures)
    (each-at sound (joined c.chunks-chunks.result.now) (place_of c.chunks-chunks.result.now c.seat_of-seat.result.chunk c.seat_of-seat.result.place) c.part_at.result.now
    (subst (AllByRecursion sound) (sym c.chunks-chunks.ensures.parts) (stand-sound g.T.Part.filled sound g.met.T.Part.is_sound c.args.self.now c.requires.sound.1))
    c.seat_of-seat.ensures.child.within)

pub returns-in_default-clause-rows : goal.returns-in_default-clause-rows
returns-in_default-clause-rows g c =
    let rows = g.T.Piece.rows in
    let ps = joined c.chunks-chunks.result.now in
    let same = c.chunks-chunks.ensures.parts in
    let i = place_of c.chunks-chunks.result.now c.seat_of-seat.result.chunk c.seat_of-seat.result.place in
    let within = c.seat_of-seat.ensures.child.within in
    let part = c.in_ok-part.part in
    let child : IsChild rows ps c.args.row i =
    child-alike rows ps (row_at c.spot.result) c.args.row i
    (c.spot.ensures.store ∙ ap (λ (r : StoreRow). r.store) c.row.ensures)
    (c.spot.ensures.change ∙ ap (λ (r : StoreRow). r.row.change) c.row.ensures) c.seat_of-seat.ensures.child in
    let node = c.in_ok-node.node in
    append-nil (flat_map rows node)
    ∙ ap (flat_map rows) c.in_ok-node.ensures.node
    ∙ with-grown rows ps i c.part_at.result.now within c.part_at.ensures c.args.row child (part ∷ [])
    (ap (λ o. flat_map rows (parts_of part o)) (sym c.in_default.is) ∙ c.in_ok-part.ensures.rows)
    ∙ ap (λ l. with_one store_row_cmp (flat_map rows l) c.args.row) same

pub returns-in_default-clause-grows : goal.returns-in_default-clause-grows
returns-in_default-clause-grows g c =
    let rows = g.T.Piece.rows in
    let ps = joined c.chunks-chunks.result.now in
    let same = c.chunks-chunks.ensures.parts in
    let i = place_of c.chunks-chunks.result.now c.seat_of-seat.result.chunk c.seat_of-seat.result.place in
    let within = c.seat_of-seat.ensures.child.within in
    let part = c.in_ok-part.part in
    let filled = g.T.Part.filled in
    let sound = g.T.Piece.sound in
    let node = c.in_ok-node.node in
    let most = c.requires.sound.0 in
    let all = ap length same in
    let grown = length-grown ps i part None within in
    let long = ap length c.in_ok-node.ensures.node in
    subst (λ old. Grows (IsFilledNode filled) (IsSoundNode filled sound) old node None) same
    (one-grows filled sound g.met.T.Part.is_sound ps i c.part_at.result.now part None node within
    (subst (IsSoundNode filled sound) (sym same) c.requires.sound)
    (subst (λ p. Grows filled sound p part None) c.part_at.ensures
    (subst (λ o. Grows filled sound c.part_at.result.now part o) c.in_default.is c.in_ok-part.ensures.grows))
    c.in_ok-node.ensures.node
    (omega (arith, most, all, grown, long)))

pub returns-then-self-lt-MOST-clause-rows : goal.returns-then-self-lt-MOST-clause-rows
returns-then-self-lt-MOST-clause-rows g c =
    let rows = g.T.Piece.rows in
    let ps = joined c.chunks-chunks.result.now in
    let same = c.chunks-chunks.ensures.parts in
    let i = place_of c.chunks-chunks.result.now c.seat_of-seat.result.chunk c.seat_of-seat.result.place in
    let within = c.seat_of-seat.ensures.child.within in
    let part = c.in_ok-part.part in
    let child : IsChild rows ps c.args.row i =
    child-alike rows ps (row_at c.spot.result) c.args.row i
    (c.spot.ensures.store ∙ ap (λ (r : StoreRow). r.store) c.row.ensures)
    (c.spot.ensures.change ∙ ap (λ (r : StoreRow). r.row.change) c.row.ensures) c.seat_of-seat.ensures.child in
    let other = c.in-Some.other in
    let node = c.in_ok-node-2.node in
    append-nil (flat_map rows node)
    ∙ ap (flat_map rows) c.in_ok-node-2.ensures.node
    ∙ with-grown rows ps i c.part_at.result.now within c.part_at.ensures c.args.row child (part ∷ other ∷ [])
    (ap (λ o. flat_map rows (parts_of part o)) (sym c.in-Some.is) ∙ c.in_ok-part.ensures.rows)
    ∙ ap (λ l. with_one store_row_cmp (flat_map rows l) c.args.row) same

pub returns-then-self-lt-MOST-clause-grows : goal.returns-then-self-lt-MOST-clause-grows
returns-then-self-lt-MOST-clause-grows g c =
    let rows = g.T.Piece.rows in
    let ps = joined c.chunks-chunks.result.now in
    let same = c.chunks-chunks.ensures.parts in
    let i = place_of c.chunks-chunks.result.now c.seat_of-seat.result.chunk c.seat_of-seat.result.place in
    let within = c.seat_of-seat.ensures.child.within in
    let part = c.in_ok-part.part in
    let other = c.in-Some.other in
    let filled = g.T.Part.filled in
    let sound = g.T.Piece.sound in
    let node = c.in_ok-node-2.node in
    let less = c.if-self-lt-MOST.true in
    let own = c.self.invariant.1 in
    let all = ap length (same ∙ sym c.self.view_is) in
    let grown = length-grown ps i part (Some other) within in
    let long = ap length c.in_ok-node-2.ensures.node in
    subst (λ old. Grows (IsFilledNode filled) (IsSoundNode filled sound) old node None) same
    (one-grows filled sound g.met.T.Part.is_sound ps i c.part_at.result.now part (Some other) node within
    (subst (IsSoundNode filled sound) (sym same) c.requires.sound)
    (subst (λ p. Grows filled sound p part (Some other)) c.part_at.ensures
    (subst (λ o. Grows filled sound c.part_at.result.now part o) c.in-Some.is c.in_ok-part.ensures.grows))
    c.in_ok-node-2.ensures.node
    (omega (arith, less, own, all, grown, long)))

pub returns-clause-rows : goal.returns-clause-rows
returns-clause-rows g c =
    let rows = g.T.Piece.rows in
    let ps = joined c.chunks-chunks.result.now in
    let same = c.chunks-chunks.ensures.parts in
    let i = place_of c.chunks-chunks.result.now c.seat_of-seat.result.chunk c.seat_of-seat.result.place in
    let within = c.seat_of-seat.ensures.child.within in
    let part = c.in_ok-part.part in
    let child : IsChild rows ps c.args.row i =
    child-alike rows ps (row_at c.spot.result) c.args.row i
    (c.spot.ensures.store ∙ ap (λ (r : StoreRow). r.store) c.row.ensures)
    (c.spot.ensures.change ∙ ap (λ (r : StoreRow). r.row.change) c.row.ensures) c.seat_of-seat.ensures.child in
    let other = c.in-Some.other in
    IfOk-weaker c.finished.result _ _
    (λ grown is.
    finished-rows rows c.in_ok-builder.builder.first.items c.in_ok-builder.builder.second.items grown.0 grown.1 is
    ∙ ap (flat_map rows) c.in_ok-builder.ensures.items
    ∙ with-grown rows ps i c.part_at.result.now within c.part_at.ensures c.args.row child (part ∷ other ∷ [])
    (ap (λ o. flat_map rows (parts_of part o)) (sym c.in-Some.is) ∙ c.in_ok-part.ensures.rows)
    ∙ ap (λ l. with_one store_row_cmp (flat_map rows l) c.args.row) same)
    c.finished.ensures

pub returns-clause-grows : goal.returns-clause-grows
returns-clause-grows g c =
    let rows = g.T.Piece.rows in
    let ps = joined c.chunks-chunks.result.now in
    let same = c.chunks-chunks.ensures.parts in
    let i = place_of c.chunks-chunks.result.now c.seat_of-seat.result.chunk c.seat_of-seat.result.place in
    let within = c.seat_of-seat.ensures.child.within in
    let part = c.in_ok-part.part in
    let other = c.in-Some.other in
    let filled = g.T.Part.filled in
    let sound = g.T.Piece.sound in
    let all = ap length (same ∙ sym c.self.view_is) in
    let long = c.self.invariant.1 in
    let full = c.if-self-lt-MOST.false in
    IfOk-weaker c.finished.result _ _
    (λ grown is.
    subst (λ old. Grows (IsFilledNode filled) (IsSoundNode filled sound) old grown.0 grown.1) same
    (node-grows filled sound g.met.T.Part.is_sound ps i c.part_at.result.now part (Some other)
    c.in_ok-builder.builder.first.items c.in_ok-builder.builder.second.items c.in_ok-builder.builder.cut within
    (subst (IsSoundNode filled sound) (sym same) c.requires.sound)
    (subst (λ p. Grows filled sound p part (Some other)) c.part_at.ensures
    (subst (λ o. Grows filled sound c.part_at.result.now part o) c.in-Some.is c.in_ok-part.ensures.grows))
    c.in_ok-builder.ensures.items c.in_ok-builder.builder.in_order
    (λ few. absurd (omega (arith, few, all, long, full)))
    (λ many. c.in_ok-builder.ensures.cut)
    grown.0 grown.1 is))
    c.finished.ensures
