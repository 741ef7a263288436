use Rattle.std.proofs.Common.{◌≡◌, ◌<◌, ◌≤◌, length}
use Rattle.std.specs.VecDeque.{deque_capacity, deque_len}
use Rattle.key_locks.specs.declared.logged.Logged.{Logged}
use Rattle.key_locks.specs.declared.name.Name.{Name}
use Rattle.key_locks.specs.Logged.{without_old}
use Rattle.key_locks.specs.Table.{lock_at}
use Rattle.key_locks.proofs.moves.forget.Given as goal

abbrev pub invariant-loop-logged : goal.invariant-loop-logged
invariant-loop-logged l = record {
  logged : without_old (λ (entry : Logged). entry.number) l.least l.logged.items ≡ without_old (λ (entry : Logged). entry.number) l.least l.initial.logged.items;
  newest : (q : Name) → l.least < (lock_at l.initial.table q).newest → (lock_at l.table q).newest ≡ (lock_at l.initial.table q).newest;
  below : (q : Name) → (lock_at l.table q).newest ≤ (lock_at l.initial.table q).newest;
  holder : (q : Name) → (lock_at l.table q).holder ≡ (lock_at l.initial.table q).holder;
  room : deque_capacity l.logged ≡ deque_capacity l.initial.logged;
  len : deque_len l.logged ≤ deque_len l.initial.logged;
}

abbrev pub decreases-loop-logged : goal.decreases-loop-logged
decreases-loop-logged l = length l.logged.items
