use Rattle.std.proofs.Common.{◌≡◌, length, ap, sym, ◌∙◌, subst}
use Rattle.std.specs.Arc.{arc_value}
use Rattle.std.specs.List.{flat_map}
use Rattle.ingest_tree.specs.Chunks.{AreChunks, joined}
use Rattle.ingest_tree.specs.Marks.{first_mark}
use Rattle.ingest_tree.proofs.ChunkLemmas.{flat-joined, first-joined}
use Rattle.ingest_tree.proofs.node.Node.of.Goals as goal

pub invariant_of-result : goal.invariant_of-result
invariant_of-result g c =
    let rows = g.T.Piece.rows in
    let marked = g.T.Piece.marked in
    let cs = c.args.chunks.items in
    let is : (arc_value c.in_ok-chunks.chunks).items ≡ cs = ap (λ v. v.items) c.in_ok-chunks.ensures.ok in (
      subst AreChunks (sym is) c.requires.chunks,
      c.requires.len ∙ ap (λ l. length (joined l)) (sym is),
      c.in_ok-count.ensures
          ∙ ap (λ l. length (flat_map (λ c. flat_map rows c) l)) c.deref.ensures.value
          ∙ ap length (flat-joined rows cs)
          ∙ ap (λ l. length (flat_map rows (joined l))) (sym is),
      c.mark_over-mark.ensures
          ∙ ap (first_mark (first_mark marked)) c.deref-2.ensures.value
          ∙ first-joined marked cs c.requires.chunks
          ∙ ap (λ l. first_mark marked (joined l)) (sym is),
    )
