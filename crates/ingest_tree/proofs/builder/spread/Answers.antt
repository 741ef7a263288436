use Rattle.std.proofs.Common.{◌≡◌, ◌+◌, ◌++◌, length, arith, take, drop, suc, ap, ◌∙◌}
use Rattle.std.proofs.lemmas.List.{drop-drop}
use Rattle.ingest_tree.specs.Chunks.{joined}
use Rattle.ingest_tree.specs.Parts.{grown_at}
use Rattle.ingest_tree.proofs.ChunkLemmas.{joined-grown, length-joined}
use Rattle.ingest_tree.proofs.builder.spread.Goals as goal

pub returns-clause-items : goal.returns-clause-items
returns-clause-items g c =
    let cs = c.args.chunks.now in
    let i = c.args.seat.chunk in
    let j = c.args.seat.place in
    let chunk = c.index-chunks-seat.result in
    let behind : c.split_at-2.result.1.now ≡ drop (suc i) cs =
    c.split_at-2.ensures.back ∙ ap (drop 1) c.split_at.ensures.back ∙ drop-drop 1 i cs ∙ (let next : i + 1 ≡ suc i = omega arith in ap (λ n. drop n cs) next) in
    let before = c.in_ok-put_chunks.ensures.items ∙ (λ k. c.in_ok-builder.ensures.items k ++ joined (c.split_at.ensures.front k)) in
    c.in_ok-put_chunks-2.ensures.items
    ∙ (λ k. ((c.in_ok-put_with.ensures.items ∙ ap (λ l. l ++ grown_at j c.parts.result.now c.args.grown.0 c.args.grown.1) before) k) ++ joined (behind k))
    ∙ ap (λ l. (joined (take i cs) ++ grown_at j l c.args.grown.0 c.args.grown.1) ++ joined (drop (suc i) cs)) (c.parts.ensures ∙ c.index-chunks-seat.is)
    ∙ joined-grown cs i j chunk c.args.grown.0 c.args.grown.1 c.requires.0 (c.requires.1 chunk)

pub returns-in_err-put_with-clause-cost : goal.returns-in_err-put_with-clause-cost
returns-in_err-put_with-clause-cost g c =
    let all = length-joined c.args.chunks.now c.args.seat.chunk c.index-chunks-seat.result c.requires.0 in
    let front = ap (λ l. length (joined l)) c.split_at.ensures.front in
    let long = ap length (c.parts.ensures ∙ c.index-chunks-seat.is) in
    let one = c.put_chunks.ensures.cost in
    let two = c.put_with.ensures.cost in
    omega (arith, all, front, long, one, two)

pub returns-in_err-put_chunks-2-clause-cost : goal.returns-in_err-put_chunks-2-clause-cost
returns-in_err-put_chunks-2-clause-cost g c =
    let cs = c.args.chunks.now in
    let i = c.args.seat.chunk in
    let all = length-joined cs i c.index-chunks-seat.result c.requires.0 in
    let front = ap (λ l. length (joined l)) c.split_at.ensures.front in
    let behind : c.split_at-2.result.1.now ≡ drop (suc i) cs =
    c.split_at-2.ensures.back ∙ ap (drop 1) c.split_at.ensures.back ∙ drop-drop 1 i cs ∙ (let next : i + 1 ≡ suc i = omega arith in ap (λ n. drop n cs) next) in
    let back = ap (λ l. length (joined l)) behind in
    let long = ap length (c.parts.ensures ∙ c.index-chunks-seat.is) in
    let one = c.put_chunks.ensures.cost in
    let two = c.put_with.ensures.cost in
    let three = c.put_chunks-2.ensures.cost in
    omega (arith, all, front, back, long, one, two, three)

pub returns-clause-cost : goal.returns-clause-cost
returns-clause-cost g c =
    let cs = c.args.chunks.now in
    let i = c.args.seat.chunk in
    let all = length-joined cs i c.index-chunks-seat.result c.requires.0 in
    let front = ap (λ l. length (joined l)) c.split_at.ensures.front in
    let behind : c.split_at-2.result.1.now ≡ drop (suc i) cs =
    c.split_at-2.ensures.back ∙ ap (drop 1) c.split_at.ensures.back ∙ drop-drop 1 i cs ∙ (let next : i + 1 ≡ suc i = omega arith in ap (λ n. drop n cs) next) in
    let back = ap (λ l. length (joined l)) behind in
    let long = ap length (c.parts.ensures ∙ c.index-chunks-seat.is) in
    let one = c.put_chunks.ensures.cost in
    let two = c.put_with.ensures.cost in
    let three = c.put_chunks-2.ensures.cost in
    omega (arith, all, front, back, long, one, two, three)
