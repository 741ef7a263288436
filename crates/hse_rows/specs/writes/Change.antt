-- Changes and writes.
use Rattle.std.specs.Prelude.{◌≡◌, ℕ, ◌≤◌, Bool, List, length, take, nat_eq}
use Rattle.std.specs.List.{starts_with}
use Rattle.hse_rows.specs.writes.Lengths.{IsKeyLength, IsPrefixLength}
use Rattle.hse_rows.specs.declared.change.Change.{Change}
use Rattle.hse_rows.specs.declared.change.Change.TheVariants.{Put, Del, PDel}
use Rattle.hse_rows.specs.declared.change.ChangeRef.{ChangeRef}
use Rattle.hse_rows.specs.declared.change.ChangeRef.TheVariants as lent
use Rattle.hse_rows.specs.declared.store.StoreId.{StoreId}
use Rattle.hse_rows.specs.declared.write.Write.{Write}

-- a prefix covers a key: the key is at least as long and begins with it
abbrev pub Covers : List ℕ → List ℕ → Type 0
Covers prefix key = (length prefix ≤ length key) × (take (length prefix) key ≡ prefix)

-- whether it does
abbrev pub covers : List ℕ → List ℕ → Bool
covers prefix key = starts_with nat_eq key prefix

-- what a change is about: its key or its prefix
abbrev pub target : Change → List ℕ
target (Put key value) = key
target (Del key) = key
target (PDel prefix) = prefix

-- the change that lent bytes say
abbrev pub change_of : ChangeRef → Change
change_of (lent.Put key value) = Put key.now value.now
change_of (lent.Del key) = Del key.now
change_of (lent.PDel prefix) = PDel prefix.now

-- the lengths that each change has
abbrev pub FitsLimits : Change → Type 0
FitsLimits (Put key value) = IsKeyLength (length key)
FitsLimits (Del key) = IsKeyLength (length key)
FitsLimits (PDel prefix) = IsPrefixLength (length prefix)

-- a write: a change of the store with this id
abbrev pub write_of : StoreId → Change → Write
write_of store change = record { store = store; change = change }
