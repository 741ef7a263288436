use Rattle.std.proofs.Common.{◌≡◌, ◌-◌}
use Rattle.ingest_tree.specs.Covered.{covered_below}
use Rattle.ingest_tree.proofs.tree.IngestTree.covered.Given as goal

abbrev pub invariant-loop-length : goal.invariant-loop-length
invariant-loop-length l = l.greatest ≡ covered_below l.fn.store.0 l.fn.key l.length l.fn.self

abbrev pub decreases-loop-length : goal.decreases-loop-length
decreases-loop-length l = l.end - l.length
