use Rattle.std.proofs.Common.{◌-◌}
use Rattle.ingest_tree.specs.Rows.{row_at}
use Rattle.ingest_tree.specs.Parts.{IsWithin}
use Rattle.ingest_tree.proofs.search.child_at.Given as goal

abbrev pub invariant-loop-high : goal.invariant-loop-high
invariant-loop-high g l = IsWithin g.P.Piece.rows l.fn.pieces (row_at l.fn.spot) l.low l.high

abbrev pub decreases-loop-high : goal.decreases-loop-high
decreases-loop-high g l = l.high - l.low
