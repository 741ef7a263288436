use Rattle.std.proofs.Common.{◌≡◌, map, drop, None}
use Rattle.key_locks.specs.Logged.{logged_write}
use Rattle.key_locks.specs.Names.{write_at}
use Rattle.key_locks.specs.Walks.{first_in}
use Rattle.key_locks.proofs.logged.first_since.Given as goal

abbrev pub invariant-loop-i : goal.invariant-loop-i
invariant-loop-i l =
    first_in (write_at l.name) l.snapshot l.first (map logged_write (drop l.i l.logged.items))
    ≡ first_in (write_at l.name) l.snapshot None (map logged_write l.logged.items)
