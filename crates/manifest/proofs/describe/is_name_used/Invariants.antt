use Rattle.std.proofs.Common.{◌≡◌, length}
use Rattle.manifest.specs.Metadata.{is_used}
use Rattle.manifest.specs.Views.{stores_as}
use Rattle.manifest.proofs.describe.is_name_used.Given as goal

abbrev pub invariant-loop-rest : goal.invariant-loop-rest
invariant-loop-rest l = is_used l.name (stores_as l.rest) ≡ is_used l.name (stores_as l.stores)

abbrev pub decreases-loop-rest : goal.decreases-loop-rest
decreases-loop-rest l = length l.rest
