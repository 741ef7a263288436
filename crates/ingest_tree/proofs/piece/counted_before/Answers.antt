use Rattle.std.proofs.Common.{◌≡◌, ◌<◌, length, take, get_or, ap, arith}
use Rattle.std.proofs.lemmas.List.Folds.{length-flat_map-take}
use Rattle.std.specs.List.{flat_map}
use Rattle.ingest_tree.proofs.piece.counted_before.Goals as goal

pub overflow_add-count : goal.overflow_add-count
overflow_add-count g c =
    let rows = g.P.Piece.rows in
    let ps = c.args.pieces.now in
    let part = c.index-pieces-i.result in
    let below = c.loop-i-test.true in
    let within = c.requires.within in
    let inside : c.loop-i.i < length ps = omega (arith, below, within) in
    let one = length-flat_map-take rows ps c.loop-i.i part inside in
    let same : length (rows part) ≡ length (rows (get_or ps c.loop-i.i part)) = ap (λ q. length (rows q)) c.index-pieces-i.is in
    let fits = c.requires.fits in
    let is = c.count-count.ensures in
    let so_far : c.loop-i.count ≡ length (flat_map rows (take c.loop-i.i ps)) = c.loop-i.invariant in
    omega (arith, one, same, fits, is, so_far)
