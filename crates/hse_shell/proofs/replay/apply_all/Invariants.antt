use Rattle.std.proofs.Common.{◌≡◌, drop}
use Rattle.wal.specs.Logged.{logged_all}
use Rattle.hse_shell.specs.Stored.{changed_all}
use Rattle.hse_shell.proofs.replay.apply_all.Given as goal

abbrev pub invariant-loop-place : goal.invariant-loop-place
invariant-loop-place l = changed_all l.rows (logged_all (drop l.place l.writes)) ≡ changed_all l.fn.rows (logged_all l.writes)
