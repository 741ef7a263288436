use Rattle.std.proofs.Common.{◌≡◌, ◌+◌, ◌++◌, take}
use Rattle.ingest_tree.proofs.builder.Builder.put_all.Given as goal

-- the parts so far stand behind those of before
abbrev pub invariant-loop-part : goal.invariant-loop-part
invariant-loop-part g l =
    (l.self.first.items ++ l.self.second.items ≡ (l.fn.self.first.items ++ l.fn.self.second.items) ++ take l.part-index l.fn.parts)
    × (l.self.cut ≡ l.fn.self.cut)
    × (l.steps ≡ l.fn.steps + l.part-index)
