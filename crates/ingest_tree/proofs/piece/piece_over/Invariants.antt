use Rattle.std.proofs.Common.{◌≡◌, ◌≤◌, take, length}
use Rattle.std.specs.List.{flat_map}
use Rattle.ingest_tree.proofs.piece.piece_over.Given as goal

abbrev pub invariant-loop-at : goal.invariant-loop-at
invariant-loop-at g l =
    let rows = g.P.Piece.rows in
    (l.before ≡ length (flat_map rows (take l.at l.fn.pieces))) × (l.before ≤ l.fn.place)
