use Rattle.std.proofs.Common.{◌≡◌, ◌++◌, length, take}
use Rattle.shell_text.specs.Pieces.{joined}
use Rattle.shell_text.proofs.append.append.Given as goal

abbrev pub invariant-loop-piece : goal.invariant-loop-piece
invariant-loop-piece l = record {
  written : l.into.items ≡ l.fn.into.items ++ joined (take l.piece-index l.pieces);
  start : l.start ≡ length l.fn.into.items;
}
