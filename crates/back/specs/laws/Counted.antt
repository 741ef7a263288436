-- Taken numbers that a value has are counted in four bytes each.
use Rattle.std.specs.Prelude.{List, [], ◌∷◌}
use Rattle.hse_rows.specs.declared.taken_run.TakenRun.{TakenRun}
use Rattle.hse_rows.specs.machine.TakenRuns.{runs_as}
use Rattle.back.specs.Bases.{AreCounted}

pub are_counted : (runs : List TakenRun) → AreCounted (runs_as runs)
are_counted [] = tt
are_counted (run ∷ runs) = (run.short, are_counted runs)
