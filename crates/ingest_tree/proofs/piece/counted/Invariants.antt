use Rattle.std.proofs.Common.{◌≡◌, ◌+◌, drop, length}
use Rattle.std.specs.List.{flat_map}
use Rattle.ingest_tree.proofs.piece.counted.Given as goal

-- the count so far and that of the rest is that of all
abbrev pub invariant-loop-piece : goal.invariant-loop-piece
invariant-loop-piece g l =
    let rows = g.P.Piece.rows in
    l.count + length (flat_map rows (drop l.piece-index l.pieces)) ≡ length (flat_map rows l.fn.pieces)
