-- What each active transaction took.
use Rattle.std.specs.Prelude.{ℕ, Bool, List, []}
use Rattle.std.specs.List.{list_any}
use Rattle.std.specs.Option.{unwrap_or}
use Rattle.std.specs.Ordering.{nat_cmp, is_eq}
use Rattle.std.specs.BTreeMap.{BTreeMap, get}
use Rattle.key_locks.specs.declared.name.Name.{Name}
use Rattle.key_locks.specs.Names.{name_cmp}

-- the names that a transaction took, in order
abbrev pub held_by : BTreeMap ℕ (List Name) → ℕ → List Name
held_by held txn = unwrap_or (get nat_cmp held txn) []

-- whether a name is among these
abbrev pub has : List Name → Name → Bool
has names name = list_any (λ other. is_eq (name_cmp other name)) names
