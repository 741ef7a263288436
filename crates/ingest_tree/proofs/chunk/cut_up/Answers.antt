use Rattle.std.proofs.Common.{◌++◌, ◌∷◌, [], sym, ◌∙◌, subst, arith}
use Rattle.std.proofs.lemmas.Bool.{eqb-false}
use Rattle.std.specs.Vec.{vec_len}
use Rattle.ingest_tree.specs.Chunks.{AreChunks}
use Rattle.ingest_tree.proofs.ChunkLemmas.{full-chunks, last-chunk}
use Rattle.ingest_tree.proofs.chunk.cut_up.Goals as goal

pub returns-then-is_empty-clause-chunks : goal.returns-then-is_empty-clause-chunks
returns-then-is_empty-clause-chunks g c = full-chunks c.loop-part.chunks.items c.loop-part.invariant.1

pub returns-clause-chunks : goal.returns-clause-chunks
returns-clause-chunks g c =
    let last = c.loop-part.last.items in
    let some = eqb-false (vec_len c.loop-part.last) 0 (sym c.is_empty.ensures ∙ c.if-is_empty.false) in
    let long = c.loop-part.last.ok.0 in
    let most = c.loop-part.invariant.2 in
    let is = c.in_ok-push-3.ensures.items ∙ (λ i. c.loop-part.chunks.items ++ c.in_ok-new-2.ensures i ∷ []) in
    subst AreChunks (sym is)
    (last-chunk c.loop-part.chunks.items last c.loop-part.invariant.1 (omega (arith, some, long)) most)
