use Rattle.std.proofs.Common.{◌≡◌, ◌++◌, length}
use Rattle.manifest.specs.Views.{stores_as}
use Rattle.recovery.specs.Image.{prefixes_of}
use Rattle.recovery.proofs.logs.prefixes.Given as goal

abbrev pub invariant-loop-rest : goal.invariant-loop-rest
invariant-loop-rest l = l.live.items ++ prefixes_of (stores_as l.rest) ≡ prefixes_of (stores_as l.stores)

abbrev pub decreases-loop-rest : goal.decreases-loop-rest
decreases-loop-rest l = length l.rest
