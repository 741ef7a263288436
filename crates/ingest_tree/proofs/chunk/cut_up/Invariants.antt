use Rattle.std.proofs.Common.{◌≡◌, ◌≤◌, ◌++◌, length}
use Rattle.std.specs.List.{AllByRecursion}
use Rattle.ingest_tree.specs.Chunks.{joined}
use Rattle.ingest_tree.proofs.chunk.cut_up.Given as goal

-- the chunks so far are full, and the parts of the last stand behind them
abbrev pub invariant-loop-part : goal.invariant-loop-part
invariant-loop-part g l =
    (joined l.chunks.items ++ l.last.items ≡ l.yielded)
    × (AllByRecursion (λ chunk. length chunk ≡ 8) l.chunks.items)
    × (length l.last.items ≤ 8)
