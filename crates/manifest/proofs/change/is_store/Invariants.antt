use Rattle.std.proofs.Common.{◌≡◌, length}
use Rattle.manifest.specs.Metadata.{is_live}
use Rattle.manifest.specs.Views.{stores_as}
use Rattle.manifest.proofs.change.is_store.Given as goal

abbrev pub invariant-loop-rest : goal.invariant-loop-rest
invariant-loop-rest l = is_live l.id (stores_as l.rest) ≡ is_live l.id (stores_as l.stores)

abbrev pub decreases-loop-rest : goal.decreases-loop-rest
decreases-loop-rest l = length l.rest
