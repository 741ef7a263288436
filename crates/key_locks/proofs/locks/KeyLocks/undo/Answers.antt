use Rattle.std.proofs.Common.{◌≡◌, ◌==◌, ◌-◌, Bool, true, false, cond, ℕ, List, length, take, map, refl, ap, sym, ◌∙◌}
use Rattle.key_locks.specs.declared.name.Name.{Name}
use Rattle.key_locks.specs.Held.{held_by}
use Rattle.key_locks.specs.Names.{write_at}
use Rattle.key_locks.proofs.UndoLemmas.{map-take, length-map}
use Rattle.key_locks.proofs.locks.KeyLocks.undo.Goals as goal

shorter : (b : Bool) (count : ℕ) (names : List Name) → map write_at (cond b (take (length names - count) names) names)
    ≡ cond b (take (length (map write_at names) - count) (map write_at names)) (map write_at names)
shorter true count names = map-take write_at (length names - count) names ∙ ap (λ n. take (n - count) (map write_at names)) (sym (length-map write_at names))
shorter false count names = refl

pub returns-clause-writes : goal.returns-clause-writes
returns-clause-writes c = λ other.
    ap (map write_at) (c.undo_names.ensures.names other) ∙ shorter (other == c.args.txn) c.args.count (held_by c.args.self.now.held other)
