use Rattle.std.proofs.Common.{◌≡◌, ◌≤◌, ◌^◌}
use Rattle.manifest.specs.Reading.{many, run_step, no_runs}
use Rattle.hse_rows.specs.machine.TakenRuns.{runs_as}
use Rattle.manifest.proofs.runs.runs_behind.Given as goal

abbrev pub invariant-loop-left : goal.invariant-loop-left
invariant-loop-left l = record {
  small : l.low ≤ 2 ^ 62;
  read : many run_step (record { runs = runs_as l.runs.items; low = l.low; joins = l.joins }) l.left l.rest
      ≡ many run_step (no_runs l.horizon) l.count l.bytes;
}

abbrev pub decreases-loop-left : goal.decreases-loop-left
decreases-loop-left l = l.left
