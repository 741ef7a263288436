-- Which stores the changes of entries name.
use Rattle.std.specs.Prelude.{◌≡◌, ◌≢◌, ℕ, List}
use Rattle.std.specs.List.{All}
use Rattle.hse_fields.specs.LogText.{Change, Entry}
use Rattle.wal.specs.Live.{prefix_fits}
use Rattle.wal.specs.declared.live.StorePrefix.{StorePrefix}

-- each change of the entries has this of its store
abbrev pub OfEachStore : (ℕ → Type 0) → List Entry → Type 0
OfEachStore Holds entries = All (λ (e : Entry). All (λ (c : Change). Holds c.store) e.changes) entries

-- no change is of this store
abbrev pub LacksStore : ℕ → List Entry → Type 0
LacksStore id entries = OfEachStore (λ (store : ℕ). store ≢ id) entries

-- the prefix deletes of this store may have the same lengths by both lists
abbrev pub FitsAlike : List StorePrefix → List StorePrefix → ℕ → Type 0
FitsAlike live other store = (size : ℕ) → prefix_fits live store size ≡ prefix_fits other store size
