use Rattle.std.proofs.Common.{◌<◌, length, sym, ◌∙◌, subst}
use Rattle.std.specs.List.{AllByRecursion, flat_map}
use Rattle.std.specs.List.Sorted.{IsStrictlySortedBy}
use Rattle.sorted_lists.specs.laws.Lists.{each-at}
use Rattle.ingest_tree.specs.Parts.{IsChild}
use Rattle.ingest_tree.specs.Rows.{store_row_cmp, row_at}
use Rattle.ingest_tree.proofs.ChunkLemmas.{chunks-some, chunks-sound, chunk-size, flat-joined, child-joined, get-any}
use Rattle.ingest_tree.proofs.PartLemmas.{rising-part}
use Rattle.ingest_tree.proofs.search.seat_of.Goals as goal

pub child_at-chunk-requires-clause-some : goal.child_at-chunk-requires-clause-some
child_at-chunk-requires-clause-some g c = chunks-some c.args.chunks.now c.requires.some

pub child_at-chunk-requires-clause-sound : goal.child_at-chunk-requires-clause-sound
child_at-chunk-requires-clause-sound g c = chunks-sound g.T.Piece.sound c.args.chunks.now c.requires.chunks c.requires.sound

pub child_at-chunk-requires-clause-rising : goal.child_at-chunk-requires-clause-rising
child_at-chunk-requires-clause-rising g c =
    subst (IsStrictlySortedBy store_row_cmp) (sym (flat-joined g.T.Piece.rows c.args.chunks.now)) c.requires.rising

pub child_at-place-requires-clause-some : goal.child_at-place-requires-clause-some
child_at-place-requires-clause-some g c =
    let cs = c.args.chunks.now in
    let chunk = c.index-chunks-chunk.result in
    subst (λ l. 0 < length l) (sym (c.parts.ensures ∙ c.index-chunks-chunk.is))
    (chunk-size cs c.child_at-chunk.result chunk c.requires.chunks c.child_at-chunk.ensures.within).0

pub child_at-place-requires-clause-sound : goal.child_at-place-requires-clause-sound
child_at-place-requires-clause-sound g c =
    let cs = c.args.chunks.now in
    let sound = g.T.Piece.sound in
    subst (AllByRecursion sound) (sym (c.parts.ensures ∙ c.index-chunks-chunk.is))
    (each-at (λ c. (0 < length c) × AllByRecursion sound c) cs c.child_at-chunk.result c.index-chunks-chunk.result
    (chunks-sound sound cs c.requires.chunks c.requires.sound) c.child_at-chunk.ensures.within).1

pub child_at-place-requires-clause-rising : goal.child_at-place-requires-clause-rising
child_at-place-requires-clause-rising g c =
    let rows = g.T.Piece.rows in
    subst (λ l. IsStrictlySortedBy store_row_cmp (flat_map rows l)) (sym c.parts.ensures)
    (rising-part (λ chunk. flat_map rows chunk) c.args.chunks.now c.child_at-chunk.result c.index-chunks-chunk.result c.child_at-chunk.ensures.within c.index-chunks-chunk.is
    (subst (IsStrictlySortedBy store_row_cmp) (sym (flat-joined rows c.args.chunks.now)) c.requires.rising))

pub returns-clause-seat : goal.returns-clause-seat
returns-clause-seat g c =
    let cs = c.args.chunks.now in
    let chunk = c.index-chunks-chunk.result in
    let within = c.child_at-chunk.ensures.within in (
      within,
      λ other.
          subst (λ l. c.child_at-place.result < length l)
          (c.parts.ensures ∙ c.index-chunks-chunk.is ∙ get-any cs c.child_at-chunk.result chunk other within) c.child_at-place.ensures.within,
    )

pub returns-clause-child : goal.returns-clause-child
returns-clause-child g c =
    let rows = g.T.Piece.rows in
    let x = row_at c.args.spot in
    child-joined rows c.args.chunks.now x c.child_at-chunk.result c.child_at-place.result c.index-chunks-chunk.result c.index-chunks-chunk.is
    c.child_at-chunk.ensures
    (subst (λ l. IsChild rows l x c.child_at-place.result) c.parts.ensures c.child_at-place.ensures)
