-- Histories: the events that made a state, each with its number.
use Rattle.std.specs.Prelude.{ℕ, ◌+◌, ◌-◌, ◌==◌, not, List, [], ◌∷◌, ◌++◌, length, take, drop}
use Rattle.std.specs.List.{filter}
use Rattle.std.specs.FinMap as fin_map
use Rattle.hse_rows.specs.declared.store.Mode.{Mode}
use Rattle.hse_rows.specs.declared.write.Write.{Write}
use Rattle.hse_rows.specs.states.State.{Store, State, applied_all}

pub data Event : Type 0 where
  -- these writes at once, in normal form
  commits : List Write → Event
  -- a store of this name, mode and prefix length
  creates : List ℕ → Mode → ℕ → Event
  -- the store of this id goes
  drops : ℕ → Event

-- a new store, which holds nothing
abbrev pub new_store : ℕ → List ℕ → Mode → ℕ → Store
new_store id name mode prefix_length =
    record { id = id; name = name; mode = mode; prefix_length = prefix_length; contents = fin_map.empty }

-- the stores but that of this id
abbrev pub without : ℕ → List Store → List Store
without id stores = filter (λ store. not (store.id == id)) stores

-- An event has the number after that of the state before it. A commit applies its writes in order, a creation adds an
-- empty store whose id is the event's number, and a drop removes its store.
abbrev pub happened : State → Event → State
happened state (commits writes) = record { number = state.number + 1; stores = (applied_all state writes).stores }
happened state (creates name mode prefix_length) =
    record {
      number = state.number + 1;
      stores = state.stores ++ new_store (state.number + 1) name mode prefix_length ∷ [];
    }
happened state (drops id) = record { number = state.number + 1; stores = without id state.stores }

-- the state after these events, in order
abbrev pub folded : State → List Event → State
folded state [] = state
folded state (event ∷ events) = folded (happened state event) events

-- the state of this number, where the events follow the base
abbrev pub fold : State → List Event → ℕ → State
fold base events number = folded base (take (number - base.number) events)

-- the events with greater numbers than this
abbrev pub events_since : State → List Event → ℕ → List Event
events_since base events number = drop (number - base.number) events

-- the last number
abbrev pub last_number : State → List Event → ℕ
last_number base events = base.number + length events
