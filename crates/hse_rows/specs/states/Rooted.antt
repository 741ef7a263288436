-- Histories in two parts: the creations and drops, and the writes of all commits. Recovery reads them apart.
use Rattle.std.specs.Prelude.{ℕ, ◌+◌, ◌≤◌, List, [], ◌∷◌, ◌++◌}
use Rattle.std.specs.List.{AllByRecursion}
use Rattle.hse_rows.specs.declared.write.Write.{Write}
use Rattle.hse_rows.specs.states.History.{Event, commits, creates, drops}

-- an event's writes
abbrev pub writes_in : Event → List Write
writes_in (commits writes) = writes
writes_in (creates name mode prefix_length) = []
writes_in (drops id) = []

-- the writes of all commits, in order
abbrev pub writes_of : List Event → List Write
writes_of [] = []
writes_of (event ∷ events) = writes_in event ++ writes_of events

-- an event without its writes
abbrev pub bare : Event → Event
bare (commits writes) = commits []
bare (creates name mode prefix_length) = creates name mode prefix_length
bare (drops id) = drops id

-- these writes are of stores with ids up to this number
abbrev pub AreUpTo : ℕ → List Write → Type 0
AreUpTo number writes = AllByRecursion (λ write. write.store.0 ≤ number) writes

-- Each commit's writes are of stores that were created before, where this is the number before these events.
abbrev pub AreRooted : ℕ → List Event → Type 0
AreRooted number [] = Unit {0}
AreRooted number (event ∷ events) = AreUpTo number (writes_in event) × AreRooted (number + 1) events
