use Rattle.std.proofs.Common.{length, ap, ◌∙◌, arith}
use Rattle.std.proofs.lemmas.List.Folds.{length-flat_map-take}
use Rattle.ingest_tree.proofs.builder.Builder.put_chunks.Goals as goal

pub returns-in_err-put_all-clause-cost : goal.returns-in_err-put_all-clause-cost
returns-in_err-put_all-clause-cost g c =
    let below = c.loop-chunk-test.true in
    let one = length-flat_map-take (λ chunk. chunk) c.args.chunks.now c.loop-chunk.chunk-index c.chunk-item.result (omega (arith, below)) in
    let long = ap length (c.parts.ensures ∙ c.chunk-item.is) in
    let so_far = c.loop-chunk.invariant.2 in
    let cost = c.put_all.ensures.cost in
    omega (arith, one, long, so_far, cost)
