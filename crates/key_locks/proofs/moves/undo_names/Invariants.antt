use Rattle.std.proofs.Common.{◌≡◌, ◌==◌, ◌-◌, ℕ, cond, length, take, None}
use Rattle.key_locks.specs.declared.name.Name.{Name}
use Rattle.key_locks.specs.Agrees.{HoldersAgree}
use Rattle.key_locks.specs.Held.{held_by}
use Rattle.key_locks.specs.Table.{lock_at}
use Rattle.key_locks.proofs.moves.undo_names.Given as goal

abbrev pub invariant-loop-undone : goal.invariant-loop-undone
invariant-loop-undone l = record {
  agree : HoldersAgree l.table l.held;
  newest : (q : Name) → (lock_at l.table q).newest ≡ (lock_at l.initial.table q).newest;
  free : (q : Name) → (lock_at l.initial.table q).holder ≡ None → (lock_at l.table q).holder ≡ None;
  names : (u : ℕ) → held_by l.held u ≡ cond (u == l.txn) (take (length (held_by l.initial.held u) - l.undone) (held_by l.initial.held u)) (held_by l.initial.held u);
}
