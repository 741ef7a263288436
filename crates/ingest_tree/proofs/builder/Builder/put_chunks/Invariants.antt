use Rattle.std.proofs.Common.{◌≡◌, ◌+◌, ◌≤◌, ◌++◌, take, length}
use Rattle.ingest_tree.specs.Chunks.{joined}
use Rattle.ingest_tree.proofs.builder.Builder.put_chunks.Given as goal

-- the parts of the chunks so far stand behind those of before
abbrev pub invariant-loop-chunk : goal.invariant-loop-chunk
invariant-loop-chunk g l =
    (l.self.first.items ++ l.self.second.items ≡ (l.fn.self.first.items ++ l.fn.self.second.items) ++ joined (take l.chunk-index l.fn.chunks))
    × (l.self.cut ≡ l.fn.self.cut)
    × (l.steps ≤ l.fn.steps + length (joined (take l.chunk-index l.fn.chunks)))
