use Rattle.std.proofs.Common.{◌≡◌, length}
use Rattle.manifest.specs.Metadata.{is_taken}
use Rattle.hse_rows.specs.machine.TakenRuns.{runs_as}
use Rattle.manifest.proofs.stores.is_in.Given as goal

abbrev pub invariant-loop-rest : goal.invariant-loop-rest
invariant-loop-rest l = is_taken l.number (runs_as l.rest) ≡ is_taken l.number (runs_as l.runs)

abbrev pub decreases-loop-rest : goal.decreases-loop-rest
decreases-loop-rest l = length l.rest
