use Rattle.std.proofs.Common.{◌≡◌, take, length}
use Rattle.std.specs.List.{flat_map}
use Rattle.ingest_tree.specs.Tree.{leaves_of}
use Rattle.ingest_tree.proofs.tree.leaf_count.Given as goal

-- the leaves of the chunks so far
abbrev pub invariant-loop-at : goal.invariant-loop-at
invariant-loop-at l = l.count ≡ length (flat_map (λ chunk. leaves_of chunk) (take l.at l.chunks))
