use Rattle.std.proofs.Common.{◌<◌, length, ap, sym, ◌∙◌, subst, arith}
use Rattle.std.proofs.lemmas.Result.{IfOk-weaker}
use Rattle.ingest_tree.specs.Chunks.{Widens}
use Rattle.ingest_tree.specs.Parts.{IsInOrder, grown_at, parts_of}
use Rattle.ingest_tree.proofs.GrowthLemmas.{most-parts, some-part}
use Rattle.ingest_tree.proofs.ChunkLemmas.{chunk-size, chunks-cost, chunks-quarter, regrown-are, regrown-long, regrown-is}
use Rattle.ingest_tree.proofs.node.regrown.Goals as goal

pub with-requires-clause-within : goal.with-requires-clause-within
with-requires-clause-within g c =
    subst (λ l. c.args.seat.place < length l) (sym c.index-chunks-seat.is) (c.requires.seat.1 c.index-chunks-seat.result)

pub with-requires-clause-most : goal.with-requires-clause-most
with-requires-clause-most g c =
    let chunk = c.index-chunks-seat.result in
    let long = ap length c.index-chunks-seat.is in
    let size = chunk-size c.args.chunks.now c.args.seat.chunk chunk c.requires.chunks c.requires.seat.0 in
    let most = size.1 in
    omega (arith, long, most)

pub of-requires-clause-chunks : goal.of-requires-clause-chunks
of-requires-clause-chunks g c =
    let cs = c.args.chunks.now in
    let i = c.args.seat.chunk in
    let j = c.args.seat.place in
    let e = c.index-chunks-seat.result in
    let new = c.in_ok-chunk.chunk in
    let p = c.args.grown.0 in
    let o = c.args.grown.1 in
    regrown-are cs i j c.args.len e new.0 p o new.1 c.in_ok-builder.builder.first.items c.in_ok-builder.builder.second.items
    c.requires.chunks c.requires.seat.0 (c.requires.seat.1 e)
    (c.in_ok-chunk.ensures.parts ∙ ap (λ l. grown_at j l p o) c.index-chunks-seat.is)
    (subst (λ l. Widens l new.0 new.1) c.index-chunks-seat.is c.in_ok-chunk.ensures.widens)
    c.requires.len c.in_ok-builder.ensures.items
    (subst (λ n. IsInOrder c.in_ok-builder.builder.first.items c.in_ok-builder.builder.second.items n) c.in_ok-builder.ensures.cut c.in_ok-builder.builder.in_order)

pub of-requires-clause-len : goal.of-requires-clause-len
of-requires-clause-len g c =
    let cs = c.args.chunks.now in
    let i = c.args.seat.chunk in
    let j = c.args.seat.place in
    let e = c.index-chunks-seat.result in
    let new = c.in_ok-chunk.chunk in
    let p = c.args.grown.0 in
    let o = c.args.grown.1 in
    regrown-long cs i j c.args.len e new.0 p o new.1 c.in_ok-builder.builder.first.items c.in_ok-builder.builder.second.items
    c.requires.chunks c.requires.seat.0 (c.requires.seat.1 e)
    (c.in_ok-chunk.ensures.parts ∙ ap (λ l. grown_at j l p o) c.index-chunks-seat.is)
    (subst (λ l. Widens l new.0 new.1) c.index-chunks-seat.is c.in_ok-chunk.ensures.widens)
    c.requires.len c.in_ok-builder.ensures.items
    (subst (λ n. IsInOrder c.in_ok-builder.builder.first.items c.in_ok-builder.builder.second.items n) c.in_ok-builder.ensures.cut c.in_ok-builder.builder.in_order)

pub returns-in_err-chunk-clause-same : goal.returns-in_err-chunk-clause-same
returns-in_err-chunk-clause-same g c lone =
    let e = c.index-chunks-seat.result in
    let few = chunks-cost c.args.chunks.now c.args.seat.chunk e c.requires.chunks c.requires.seat.0 in
    let long = ap length c.index-chunks-seat.is in
    let one = ap (λ o. length (parts_of c.args.grown.0 o)) lone in
    let cost = c.with.ensures.cost in
    omega (arith, few, long, one, cost)

pub returns-in_err-chunk-clause-more : goal.returns-in_err-chunk-clause-more
returns-in_err-chunk-clause-more g c fits =
    let e = c.index-chunks-seat.result in
    let long = ap length c.index-chunks-seat.is in
    let size = chunk-size c.args.chunks.now c.args.seat.chunk e c.requires.chunks c.requires.seat.0 in
    let most = size.1 in
    let two = most-parts c.args.grown.0 c.args.grown.1 in
    let cost = c.with.ensures.cost in
    omega (arith, long, most, two, cost)

pub returns-in_err-builder-clause-same : goal.returns-in_err-builder-clause-same
returns-in_err-builder-clause-same g c lone =
    let e = c.index-chunks-seat.result in
    let few = chunks-cost c.args.chunks.now c.args.seat.chunk e c.requires.chunks c.requires.seat.0 in
    let long = ap length c.index-chunks-seat.is in
    let one = ap (λ o. length (parts_of c.args.grown.0 o)) lone in
    let whole = ap (λ o. length (parts_of c.in_ok-chunk.chunk.0 o)) (c.in_ok-chunk.ensures.whole lone) in
    let cost = c.with.ensures.cost in
    let cost-2 = c.rebuilt.ensures.cost in
    omega (arith, few, long, one, whole, cost, cost-2)

pub returns-in_err-builder-clause-more : goal.returns-in_err-builder-clause-more
returns-in_err-builder-clause-more g c fits =
    let e = c.index-chunks-seat.result in
    let long = ap length c.index-chunks-seat.is in
    let size = chunk-size c.args.chunks.now c.args.seat.chunk e c.requires.chunks c.requires.seat.0 in
    let most = size.1 in
    let quarter = chunks-quarter c.args.chunks.now c.requires.chunks in
    let one = some-part c.args.grown.0 c.args.grown.1 in
    let two = most-parts c.args.grown.0 c.args.grown.1 in
    let two-2 = most-parts c.in_ok-chunk.chunk.0 c.in_ok-chunk.chunk.1 in
    let cost = c.with.ensures.cost in
    let cost-2 = c.rebuilt.ensures.cost in
    let all = c.requires.len in
    omega (arith, long, most, quarter, one, two, two-2, cost, cost-2, all, fits)

pub returns-clause-node : goal.returns-clause-node
returns-clause-node g c =
    let cs = c.args.chunks.now in
    let i = c.args.seat.chunk in
    let j = c.args.seat.place in
    let e = c.index-chunks-seat.result in
    let new = c.in_ok-chunk.chunk in
    let p = c.args.grown.0 in
    let o = c.args.grown.1 in
    IfOk-weaker c.of.result _ _
    (λ node is.
    is ∙ regrown-is cs i j c.args.len e new.0 p o new.1 c.in_ok-builder.builder.first.items c.in_ok-builder.builder.second.items
    c.requires.chunks c.requires.seat.0 (c.requires.seat.1 e)
    (c.in_ok-chunk.ensures.parts ∙ ap (λ l. grown_at j l p o) c.index-chunks-seat.is)
    (subst (λ l. Widens l new.0 new.1) c.index-chunks-seat.is c.in_ok-chunk.ensures.widens)
    c.requires.len c.in_ok-builder.ensures.items
    (subst (λ n. IsInOrder c.in_ok-builder.builder.first.items c.in_ok-builder.builder.second.items n) c.in_ok-builder.ensures.cut c.in_ok-builder.builder.in_order))
    c.of.ensures

pub returns-clause-same : goal.returns-clause-same
returns-clause-same g c lone =
    let e = c.index-chunks-seat.result in
    let few = chunks-cost c.args.chunks.now c.args.seat.chunk e c.requires.chunks c.requires.seat.0 in
    let long = ap length c.index-chunks-seat.is in
    let one = ap (λ o. length (parts_of c.args.grown.0 o)) lone in
    let whole = ap (λ o. length (parts_of c.in_ok-chunk.chunk.0 o)) (c.in_ok-chunk.ensures.whole lone) in
    let cost = c.with.ensures.cost in
    let cost-2 = c.rebuilt.ensures.cost in
    omega (arith, few, long, one, whole, cost, cost-2)

pub returns-clause-more : goal.returns-clause-more
returns-clause-more g c fits =
    let e = c.index-chunks-seat.result in
    let long = ap length c.index-chunks-seat.is in
    let size = chunk-size c.args.chunks.now c.args.seat.chunk e c.requires.chunks c.requires.seat.0 in
    let most = size.1 in
    let quarter = chunks-quarter c.args.chunks.now c.requires.chunks in
    let one = some-part c.args.grown.0 c.args.grown.1 in
    let two = most-parts c.args.grown.0 c.args.grown.1 in
    let two-2 = most-parts c.in_ok-chunk.chunk.0 c.in_ok-chunk.chunk.1 in
    let cost = c.with.ensures.cost in
    let cost-2 = c.rebuilt.ensures.cost in
    let all = c.requires.len in
    omega (arith, long, most, quarter, one, two, two-2, cost, cost-2, all, fits)
