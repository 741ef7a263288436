use Rattle.std.proofs.Common.{◌≡◌, ◌++◌, length, take}
use Rattle.hse_fields.specs.Fields.{joined}
use Rattle.hse_fields.proofs.put.put_pieces.Given as goal

abbrev pub invariant-loop-piece : goal.invariant-loop-piece
invariant-loop-piece l = record {
  written : l.into.items ≡ l.fn.into.items ++ joined (take l.piece-index l.pieces);
  start : l.start ≡ length l.fn.into.items;
}
