-- Entries that are numbered one after another, where no number is taken.
use Rattle.std.specs.Prelude.{◌≡◌, ℕ, ◌+◌, ◌-◌, ◌≤◌, List, [], ◌∷◌, length}
use Rattle.std.specs.List.{AllByRecursion}
use Rattle.hse_fields.specs.LogText.{Entry}
use Rattle.wal.specs.Charges.{charges}
use Rattle.wal.specs.Numbering.{Numbers, last_number}

-- no number is taken
abbrev pub untaken : ℕ → ℕ → Numbers
untaken next room = record { next = next; taken = []; room = room }

-- the entries have the numbers from this one on, in order
abbrev pub AreNumbered : ℕ → List Entry → Type 0
AreNumbered next [] = Unit {0}
AreNumbered next (e ∷ es) = (e.number ≡ next) × AreNumbered (next + 1) es

-- no number is above the greatest one of a history
abbrev pub AreSmall : List Entry → Type 0
AreSmall entries = AllByRecursion (λ (e : Entry). e.number ≤ last_number) entries

-- what entries are that may come one after another where no number is taken, and what is known after them
pub record IsRun (next room : ℕ) (entries : List Entry) (last : Numbers) : Type 0 where
  pub numbered : AreNumbered next entries
  pub small : AreSmall entries
  pub fits : charges entries ≤ room
  pub last_is : last ≡ untaken (next + length entries) (room - charges entries)
