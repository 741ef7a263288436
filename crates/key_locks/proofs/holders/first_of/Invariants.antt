use Rattle.std.proofs.Common.{◌≡◌}
use Rattle.key_locks.specs.Holders.{first_of_store}
use Rattle.key_locks.proofs.holders.first_of.Given as goal

abbrev pub invariant-loop-txn : goal.invariant-loop-txn
invariant-loop-txn l =
    (goal.iterator-loop-txn).can_next l.rest × (goal.iterator-loop-txn).is_finite l.rest
    × (first_of_store l.store l.rest ≡ first_of_store l.store l.held.entries)
