use Rattle.std.proofs.Common.{◌≡◌}
use Rattle.key_locks.specs.Seen.{seen_below, nothing_seen}
use Rattle.key_locks.proofs.search.below.Given as goal

abbrev pub invariant-loop-name : goal.invariant-loop-name
invariant-loop-name l =
    (goal.iterator-loop-name).can_next l.rest × (goal.iterator-loop-name).is_finite l.rest
    × (seen_below l.txn l.start l.rest l.seen ≡ seen_below l.txn l.start l.initial.rest nothing_seen)
