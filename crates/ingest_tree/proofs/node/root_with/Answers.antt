use Rattle.std.proofs.Common.{◌≡◌, ◌+◌, ◌<◌, ◌∷◌, [], None, Some, length, ap, sym, ◌∙◌, subst, refl, arith}
use Rattle.std.specs.List.{AllByRecursion, flat_map}
use Rattle.std.specs.List.Sorted.{IsStrictlySortedBy}
use Rattle.std.proofs.lemmas.Result.{IfOk-weaker}
use Rattle.sorted_lists.specs.Places.{with_one}
use Rattle.sorted_lists.specs.laws.Lists.{each-at}
use Rattle.ingest_tree.specs.declared.store_row.StoreRow.{StoreRow}
use Rattle.ingest_tree.specs.Chunks.{joined, place_of}
use Rattle.ingest_tree.specs.Rows.{store_row_cmp, row_at}
use Rattle.ingest_tree.specs.Parts.{parts_of, Stand, Grows, IsChild}
use Rattle.ingest_tree.specs.laws.Filling.{stand-sound, stand-some}
use Rattle.ingest_tree.proofs.PartLemmas.{rising-part, with-grown, child-alike}
use Rattle.ingest_tree.proofs.GrowthLemmas.{all-first, stand-grown}
use Rattle.ingest_tree.proofs.node.root_with.Goals as goal

pub with-requires-clause-sound : goal.with-requires-clause-sound
with-requires-clause-sound g c =
    let sound = g.T.Piece.sound in
    subst sound (sym c.part_at.ensures)
    (each-at sound (joined c.chunks-chunks.result.now) (place_of c.chunks-chunks.result.now c.seat_of-seat.result.chunk c.seat_of-seat.result.place) c.part_at.result.now
    (subst (AllByRecursion sound) (sym c.chunks-chunks.ensures.parts) (stand-sound g.T.Part.filled sound g.met.T.Part.is_sound c.args.root.now c.requires.stands))
    c.seat_of-seat.ensures.child.within)

pub seat_of-seat-requires-clause-some : goal.seat_of-seat-requires-clause-some
seat_of-seat-requires-clause-some g c =
    subst (λ l. 0 < length l) (sym c.chunks-chunks.ensures.parts)
    (stand-some g.T.Part.filled g.T.Piece.sound g.met.T.Part.is_sound c.args.root.now c.requires.stands)

pub seat_of-seat-requires-clause-sound : goal.seat_of-seat-requires-clause-sound
seat_of-seat-requires-clause-sound g c =
    subst (AllByRecursion g.T.Piece.sound) (sym c.chunks-chunks.ensures.parts)
    (stand-sound g.T.Part.filled g.T.Piece.sound g.met.T.Part.is_sound c.args.root.now c.requires.stands)

pub with-requires-clause-rising : goal.with-requires-clause-rising
with-requires-clause-rising g c =
    rising-part g.T.Piece.rows (joined c.chunks-chunks.result.now) (place_of c.chunks-chunks.result.now c.seat_of-seat.result.chunk c.seat_of-seat.result.place) c.part_at.result.now c.seat_of-seat.ensures.child.within c.part_at.ensures
    (subst (λ ps. IsStrictlySortedBy store_row_cmp (flat_map g.T.Piece.rows ps)) (sym c.chunks-chunks.ensures.parts) c.requires.rising)

pub regrown-requires-clause-len : goal.regrown-requires-clause-len
regrown-requires-clause-len g c =
    let same = ap length c.chunks-chunks.ensures.parts in
    let long = c.len-in-None.ensures in
    omega (arith, same, long)

pub returns-in-None-clause-rows : goal.returns-in-None-clause-rows
returns-in-None-clause-rows g c =
    let rows = g.T.Piece.rows in
    let ps = joined c.chunks-chunks.result.now in
    let i = place_of c.chunks-chunks.result.now c.seat_of-seat.result.chunk c.seat_of-seat.result.place in
    let within = c.seat_of-seat.ensures.child.within in
    let part = c.in_ok-part.part in
    let child : IsChild rows ps c.args.row i =
    child-alike rows ps (row_at c.spot.result) c.args.row i
    (c.spot.ensures.store ∙ ap (λ (r : StoreRow). r.store) c.row-2.ensures)
    (c.spot.ensures.change ∙ ap (λ (r : StoreRow). r.row.change) c.row-2.ensures) c.seat_of-seat.ensures.child in
    IfOk-weaker c.regrown.result _ _
    (λ node is.
    ap (flat_map rows) is
    ∙ with-grown rows ps i c.part_at.result.now within c.part_at.ensures c.args.row child (part ∷ [])
    (ap (λ o. flat_map rows (parts_of part o)) (sym c.in-None.is) ∙ c.in_ok-part.ensures.rows)
    ∙ ap (λ l. with_one store_row_cmp (flat_map rows l) c.args.row) c.chunks-chunks.ensures.parts)
    c.regrown.ensures.node

pub returns-in-None-clause-stands : goal.returns-in-None-clause-stands
returns-in-None-clause-stands g c =
    let ps = joined c.chunks-chunks.result.now in
    let i = place_of c.chunks-chunks.result.now c.seat_of-seat.result.chunk c.seat_of-seat.result.place in
    let part = c.in_ok-part.part in
    let filled = g.T.Part.filled in
    let sound = g.T.Piece.sound in
    IfOk-weaker c.regrown.result _ _
    (λ node is.
    subst (Stand filled sound) (sym is)
    (stand-grown filled sound g.met.T.Part.is_sound ps i c.part_at.result.now part None c.seat_of-seat.ensures.child.within
    (subst (Stand filled sound) (sym c.chunks-chunks.ensures.parts) c.requires.stands)
    (subst (λ p. Grows filled sound p part None) c.part_at.ensures
    (subst (λ o. Grows filled sound c.part_at.result.now part o) c.in-None.is c.in_ok-part.ensures.grows))))
    c.regrown.ensures.node

pub returns-in-None-clause-cost : goal.returns-in-None-clause-cost
returns-in-None-clause-cost g c =
    let one = c.in_ok-part.ensures.cost in
    let two = c.regrown.ensures.same refl in
    let same = ap length c.chunks-chunks.ensures.parts in
    omega (arith, one, two, same)

pub returns-in_ok-builder-in-Some-other-clause-rows : goal.returns-in_ok-builder-in-Some-other-clause-rows
returns-in_ok-builder-in-Some-other-clause-rows g c =
    let rows = g.T.Piece.rows in
    let ps = joined c.chunks-chunks.result.now in
    let same = c.chunks-chunks.ensures.parts in
    let i = place_of c.chunks-chunks.result.now c.seat_of-seat.result.chunk c.seat_of-seat.result.place in
    let within = c.seat_of-seat.ensures.child.within in
    let part = c.in_ok-part.part in
    let child : IsChild rows ps c.args.row i =
    child-alike rows ps (row_at c.spot.result) c.args.row i
    (c.spot.ensures.store ∙ ap (λ (r : StoreRow). r.store) c.row-2.ensures)
    (c.spot.ensures.change ∙ ap (λ (r : StoreRow). r.row.change) c.row-2.ensures) c.seat_of-seat.ensures.child in
    let other = c.in-Some-other.other in
    let room : c.in-Some.cut ≡ length ps + 1 = c.in-Some.ensures.1 ∙ ap (λ n. n + 1) (c.len.ensures ∙ ap length (sym same)) in
    let first =
    all-first ps i part (Some other)
    c.in_ok-builder-in-Some-other.builder.first.items c.in_ok-builder-in-Some-other.builder.second.items c.in_ok-builder-in-Some-other.builder.cut within
    c.in_ok-builder-in-Some-other.ensures.items c.in_ok-builder-in-Some-other.builder.in_order (c.in_ok-builder-in-Some-other.ensures.cut ∙ room) in
    IfOk-weaker c.new.result _ _
    (λ node is.
    ap (flat_map rows) (is ∙ first)
    ∙ with-grown rows ps i c.part_at.result.now within c.part_at.ensures c.args.row child
    (part ∷ other ∷ [])
    (ap (λ o. flat_map rows (parts_of part o)) (sym c.in-Some-other.is) ∙ c.in_ok-part.ensures.rows)
    ∙ ap (λ l. with_one store_row_cmp (flat_map rows l) c.args.row) same)
    c.new.ensures

pub returns-in_ok-builder-in-Some-other-clause-stands : goal.returns-in_ok-builder-in-Some-other-clause-stands
returns-in_ok-builder-in-Some-other-clause-stands g c =
    let ps = joined c.chunks-chunks.result.now in
    let same = c.chunks-chunks.ensures.parts in
    let i = place_of c.chunks-chunks.result.now c.seat_of-seat.result.chunk c.seat_of-seat.result.place in
    let within = c.seat_of-seat.ensures.child.within in
    let part = c.in_ok-part.part in
    let filled = g.T.Part.filled in
    let sound = g.T.Piece.sound in
    let other = c.in-Some-other.other in
    let room : c.in-Some.cut ≡ length ps + 1 = c.in-Some.ensures.1 ∙ ap (λ n. n + 1) (c.len.ensures ∙ ap length (sym same)) in
    let first =
    all-first ps i part (Some other)
    c.in_ok-builder-in-Some-other.builder.first.items c.in_ok-builder-in-Some-other.builder.second.items c.in_ok-builder-in-Some-other.builder.cut within
    c.in_ok-builder-in-Some-other.ensures.items c.in_ok-builder-in-Some-other.builder.in_order (c.in_ok-builder-in-Some-other.ensures.cut ∙ room) in
    IfOk-weaker c.new.result _ _
    (λ node is.
    subst (Stand filled sound) (sym (is ∙ first))
    (stand-grown filled sound g.met.T.Part.is_sound ps i c.part_at.result.now part (Some other) within
    (subst (Stand filled sound) (sym same) c.requires.stands)
    (subst (λ p. Grows filled sound p part (Some other)) c.part_at.ensures
    (subst (λ o. Grows filled sound c.part_at.result.now part o) c.in-Some-other.is c.in_ok-part.ensures.grows))))
    c.new.ensures
