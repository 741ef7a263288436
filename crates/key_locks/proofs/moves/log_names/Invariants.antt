use Rattle.std.proofs.Common.{◌≡◌, ◌≤◌, ◌+◌, ◌++◌, cond, None, max, true, length}
use Rattle.std.specs.VecDeque.{deque_capacity, deque_len}
use Rattle.key_locks.specs.declared.name.Name.{Name}
use Rattle.key_locks.specs.Held.{has}
use Rattle.key_locks.specs.Logged.{entries_of}
use Rattle.key_locks.specs.Table.{lock_at, no_lock}
use Rattle.key_locks.proofs.moves.log_names.Given as goal

abbrev pub invariant-loop-name : goal.invariant-loop-name
invariant-loop-name l = record {
  room : deque_len l.logged + length l.rest.rest.items ≤ deque_capacity l.logged;
  same_room : deque_capacity l.logged ≡ deque_capacity l.initial.logged;
  logged : l.logged.items ++ entries_of l.number l.rest.rest.items ≡ l.initial.logged.items ++ entries_of l.number l.initial.rest.rest.items;
  locked : (q : Name) → has l.rest.rest.items q ≡ true → lock_at l.table q ≡ no_lock → l.number ≡ 0;
  newest : (q : Name) → cond (has l.rest.rest.items q) (max (lock_at l.table q).newest l.number) (lock_at l.table q).newest
      ≡ cond (has l.initial.rest.rest.items q) (max (lock_at l.initial.table q).newest l.number) (lock_at l.initial.table q).newest;
  holder : (q : Name) → cond (has l.rest.rest.items q) None (lock_at l.table q).holder ≡ cond (has l.initial.rest.rest.items q) None (lock_at l.initial.table q).holder;
}

abbrev pub decreases-loop-name : goal.decreases-loop-name
decreases-loop-name l = length l.rest.rest.items
