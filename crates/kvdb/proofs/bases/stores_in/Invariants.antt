use Rattle.std.proofs.Common.{◌≡◌, ◌++◌, length, map}
use Rattle.manifest.specs.Views.{stores_as}
use Rattle.kvdb.specs.Entering.{live_in}
use Rattle.kvdb.proofs.bases.stores_in.Given as goal

abbrev pub invariant-loop-rest : goal.invariant-loop-rest
invariant-loop-rest l = stores_as l.all.items ++ map live_in l.rest ≡ map live_in l.stores

abbrev pub decreases-loop-rest : goal.decreases-loop-rest
decreases-loop-rest l = length l.rest
