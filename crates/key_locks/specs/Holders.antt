-- The first transaction that has a write in a store.
use Rattle.std.specs.Prelude.{◌≡◌, ℕ, ◌==◌, cond, true, List, [], ◌∷◌, Option, Some, None}
use Rattle.std.specs.List.{list_any}
use Rattle.std.specs.Option.{IfSome}
use Rattle.key_locks.specs.declared.locks.KeyLocks.{KeyLocks}
use Rattle.key_locks.specs.declared.name.Name.{Name}
use Rattle.key_locks.specs.Locks.{writes_of}
use Rattle.key_locks.specs.Seen.{IsUpTo}

-- the least number of a kind, or none
pub record IsFirst (kind : ℕ → Type 0) (first : Option ℕ) : Type 0 where
  pub least : (n : ℕ) → kind n → IsUpTo first n
  pub found : IfSome first kind

-- the transaction has a write in the store of this id
abbrev pub HoldsIn : KeyLocks → ℕ → ℕ → Type 0
HoldsIn locks id txn = list_any (λ write. write.store.0 == id) (writes_of locks txn) ≡ true

-- the first that has one, or none
abbrev pub IsFirstIn : KeyLocks → ℕ → Option ℕ → Type 0
IsFirstIn locks id first = IsFirst (HoldsIn locks id) first

-- what a walk over the transactions' names finds
abbrev pub first_of_store : ℕ → List (ℕ × List Name) → Option ℕ
first_of_store id [] = None
first_of_store id (entry ∷ entries) =
    cond (list_any (λ (name : Name). name.store == id) entry.1) (Some entry.0) (first_of_store id entries)
