use Rattle.std.proofs.Common.{◌≡◌, drop}
use Rattle.std.specs.FinMap as map
use Rattle.wal.specs.Logged.{entries_of}
use Rattle.hse_shell.specs.Stored.{replayed}
use Rattle.hse_shell.proofs.replay.rows_of.Given as goal

abbrev pub invariant-loop-commit : goal.invariant-loop-commit
invariant-loop-commit l = replayed l.rows (entries_of (drop l.commit-index l.commits)) ≡ replayed map.empty (entries_of l.commits)
