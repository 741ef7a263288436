use Rattle.std.proofs.Common.{◌≡◌, cond, None, length}
use Rattle.key_locks.specs.declared.name.Name.{Name}
use Rattle.key_locks.specs.Held.{has}
use Rattle.key_locks.specs.Table.{lock_at}
use Rattle.key_locks.proofs.moves.free_names.Given as goal

abbrev pub invariant-loop-name : goal.invariant-loop-name
invariant-loop-name l = record {
  newest : (q : Name) → (lock_at l.table q).newest ≡ (lock_at l.initial.table q).newest;
  holder : (q : Name) → cond (has l.rest.rest.items q) None (lock_at l.table q).holder ≡ cond (has l.initial.rest.rest.items q) None (lock_at l.initial.table q).holder;
}

abbrev pub decreases-loop-name : goal.decreases-loop-name
decreases-loop-name l = length l.rest.rest.items
