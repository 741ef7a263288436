use Rattle.std.proofs.Common.{length, ap, ◌∙◌, subst, arith}
use Rattle.std.proofs.lemmas.Result.{IfOk-weaker}
use Rattle.ingest_tree.specs.Chunks.{Widens}
use Rattle.ingest_tree.specs.Parts.{grown_at}
use Rattle.ingest_tree.proofs.ChunkLemmas.{finished-joined, chunk-widens, chunk-whole}
use Rattle.ingest_tree.proofs.chunk.Chunk.with.Goals as goal

pub returns-clause-parts : goal.returns-clause-parts
returns-clause-parts g c =
    IfOk-weaker c.finished.result _ _
    (λ grown is.
    finished-joined c.in_ok-builder.builder.first.items c.in_ok-builder.builder.second.items grown.0 grown.1 is
    ∙ c.in_ok-builder.ensures.items
    ∙ ap (λ l. grown_at c.args.at l c.args.grown.0 c.args.grown.1) c.parts-parts.ensures)
    c.finished.ensures

pub returns-clause-widens : goal.returns-clause-widens
returns-clause-widens g c =
    let ps = c.parts-parts.result.now in
    let same = c.parts-parts.ensures in
    let long = ap length same in
    let within = c.requires.within in
    let most = c.requires.most in
    let added = c.added.ensures in
    IfOk-weaker c.finished.result _ _
    (λ grown is.
    subst (λ l. Widens l grown.0 grown.1) same
    (chunk-widens ps c.args.at c.args.grown.0 c.args.grown.1
    c.in_ok-builder.builder.first.items c.in_ok-builder.builder.second.items c.in_ok-builder.builder.cut
    (omega (arith, long, within)) (omega (arith, long, most))
    c.in_ok-builder.ensures.items c.in_ok-builder.builder.in_order
    (λ few. c.in_ok-builder.ensures.cut ∙ c.cut_for-cut.ensures.whole (omega (arith, few, added)))
    (λ many. c.in_ok-builder.ensures.cut ∙ c.cut_for-cut.ensures.halves (omega (arith, many, added)))
    grown.0 grown.1 is))
    c.finished.ensures

pub returns-clause-whole : goal.returns-clause-whole
returns-clause-whole g c lone =
    let ps = c.parts-parts.result.now in
    let long = ap length c.parts-parts.ensures in
    let within = c.requires.within in
    let most = c.requires.most in
    let added = c.added.ensures in
    IfOk-weaker c.finished.result _ _
    (λ grown is.
    chunk-whole ps c.args.at c.args.grown.0 c.args.grown.1
    c.in_ok-builder.builder.first.items c.in_ok-builder.builder.second.items c.in_ok-builder.builder.cut
    (omega (arith, long, within)) (omega (arith, long, most))
    c.in_ok-builder.ensures.items c.in_ok-builder.builder.in_order
    (λ few. c.in_ok-builder.ensures.cut ∙ c.cut_for-cut.ensures.whole (omega (arith, few, added)))
    (λ many. c.in_ok-builder.ensures.cut ∙ c.cut_for-cut.ensures.halves (omega (arith, many, added)))
    lone grown.0 grown.1 is)
    c.finished.ensures
