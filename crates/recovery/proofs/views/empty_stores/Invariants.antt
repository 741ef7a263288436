use Rattle.std.proofs.Common.{◌≡◌, ◌++◌, length, map}
use Rattle.manifest.specs.Views.{stores_as}
use Rattle.recovery.specs.Opened.{empty_store}
use Rattle.recovery.proofs.views.empty_stores.Given as goal

abbrev pub invariant-loop-rest : goal.invariant-loop-rest
invariant-loop-rest g l = l.live.items ++ map (empty_store _) (stores_as l.rest) ≡ map (empty_store _) (stores_as l.stores)

abbrev pub decreases-loop-rest : goal.decreases-loop-rest
decreases-loop-rest g l = length l.rest
