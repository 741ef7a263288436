use Rattle.std.proofs.Common.{◌≡◌, take, length}
use Rattle.std.specs.List.{flat_map}
use Rattle.ingest_tree.proofs.piece.counted_before.Given as goal

abbrev pub invariant-loop-i : goal.invariant-loop-i
invariant-loop-i g l =
    let rows = g.P.Piece.rows in
    l.count ≡ length (flat_map rows (take l.i l.fn.pieces))
