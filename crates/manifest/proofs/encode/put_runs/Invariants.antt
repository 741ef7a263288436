use Rattle.std.proofs.Common.{◌≡◌, ◌++◌, length}
use Rattle.manifest.specs.Text.{runs_text}
use Rattle.hse_rows.specs.machine.TakenRuns.{runs_as}
use Rattle.manifest.proofs.encode.put_runs.Given as goal

abbrev pub invariant-loop-rest : goal.invariant-loop-rest
invariant-loop-rest l = l.into.items ++ runs_text l.low (runs_as l.rest) ≡ l.fn.into.items ++ runs_text l.horizon (runs_as l.runs)

abbrev pub decreases-loop-rest : goal.decreases-loop-rest
decreases-loop-rest l = length l.rest
