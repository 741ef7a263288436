use Rattle.ingest_tree.proofs.TreeLemmas.{no-rows}
use Rattle.ingest_tree.proofs.tree.IngestTree.empty.Goals as goal

pub invariant_of-result : goal.invariant_of-result
invariant_of-result c = record { root = tt; rows = no-rows _ _ }
