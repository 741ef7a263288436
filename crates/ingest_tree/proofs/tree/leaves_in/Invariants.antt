use Rattle.std.proofs.Common.{◌≡◌, take, length}
use Rattle.ingest_tree.specs.Tree.{leaves_of}
use Rattle.ingest_tree.proofs.tree.leaves_in.Given as goal

abbrev pub invariant-loop-at : goal.invariant-loop-at
invariant-loop-at l = l.count ≡ length (leaves_of (take l.at l.fn.branches))
