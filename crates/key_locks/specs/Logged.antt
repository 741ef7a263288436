-- The names that commits wrote.
use Rattle.std.specs.Prelude.{ℕ, Bool, false, cond, not, nat_lt, List, [], ◌∷◌, map}
use Rattle.key_locks.specs.declared.logged.Logged.{Logged}
use Rattle.hse_rows.specs.declared.write.Write.{Write}
use Rattle.key_locks.specs.declared.name.Name.{Name}
use Rattle.key_locks.specs.Names.{write_at}

-- names that a commit wrote
abbrev pub entries_of : ℕ → List Name → List Logged
entries_of number names = map (λ (name : Name). record { number = number; name = name }) names

-- the number and the write of an entry
abbrev pub logged_write : Logged → ℕ × Write
logged_write entry = (entry.number, write_at entry.name)

-- what is left once the first ones up to a number are taken off
abbrev pub without_old : {X : Type 0} → (X → ℕ) → ℕ → List X → List X
without_old number_of least [] = []
without_old number_of least (x ∷ xs) = cond (nat_lt least (number_of x)) (x ∷ xs) (without_old number_of least xs)

-- whether the first one is up to a number
abbrev pub begins_old : ℕ → List Logged → Bool
begins_old least [] = false
begins_old least (entry ∷ entries) = not (nat_lt least entry.number)
