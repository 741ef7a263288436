-- A state: its number, and its stores with what they hold.
use Rattle.std.specs.Prelude.{◌≡◌, ℕ, ◌<◌, ◌≤◌, ◌==◌, false, not, cond, List, [], ◌∷◌, map, Option}
use Rattle.std.specs.List.{find, list_any}
use Rattle.std.specs.Ordering.{nat_cmp}
use Rattle.std.specs.Cmp.Lexicographic.{slice_cmp}
use Rattle.std.specs.FinMap as fin_map
use Rattle.hse_rows.specs.declared.store.Mode.{Mode}
use Rattle.hse_rows.specs.declared.change.Change.{Change}
use Rattle.hse_rows.specs.declared.change.Change.TheVariants.{Put, Del, PDel}
use Rattle.hse_rows.specs.declared.write.Write.{Write}
use Rattle.hse_rows.specs.writes.Change.{covers}
use Rattle.hse_rows.specs.writes.NormalForm.{same}

-- from keys to values, the keys in byte order
abbrev pub Contents : Type 0
Contents = fin_map.FinMap (slice_cmp nat_cmp) (List ℕ)

-- A put sets its key, a del removes it, and a prefix delete removes every key that its prefix covers.
abbrev pub changed : Contents → Change → Contents
changed contents (Put key bytes) = fin_map.insert contents key bytes
changed contents (Del key) = fin_map.remove contents key
changed contents (PDel prefix) = fin_map.retain_keys contents (λ key. not (covers prefix key))

pub record Store : Type 0 where
  pub id : ℕ
  pub name : List ℕ
  pub mode : Mode
  -- the length of the prefixes of its prefix deletes, and 0 where it has none
  pub prefix_length : ℕ
  pub contents : Contents

-- The number of the last event, and the live stores in order of id.
pub record State : Type 0 where
  pub number : ℕ
  pub stores : List Store

-- ids strictly rise from above this one on, and none is above the number
abbrev pub AreRising : ℕ → ℕ → List Store → Type 0
AreRising low number [] = Unit {0}
AreRising low number (store ∷ stores) = (low < store.id) × (store.id ≤ number) × AreRising store.id number stores

-- no two stores have one name
abbrev pub AreNamedApart : List Store → Type 0
AreNamedApart [] = Unit {0}
AreNamedApart (store ∷ stores) =
    (list_any (λ other. same other.name store.name) stores ≡ false) × AreNamedApart stores

-- Two names have two ids, and an id is the number of an event.
pub record IsState (state : State) : Type 0 where
  pub rising : AreRising 0 state.number state.stores
  pub named : AreNamedApart state.stores

-- the live store of this name
abbrev pub store_named : State → List ℕ → Option Store
store_named state name = find (λ store. same store.name name) state.stores

-- the live store of this id
abbrev pub store_of : State → ℕ → Option Store
store_of state id = find (λ store. store.id == id) state.stores

-- what the store of this id holds after a write: a write of another store changes nothing of it
abbrev pub contents_after : ℕ → Contents → Write → Contents
contents_after id contents write = cond (write.store.0 == id) (changed contents write.change) contents

-- and after these writes, in order
abbrev pub contents_after_all : ℕ → Contents → List Write → Contents
contents_after_all id contents [] = contents
contents_after_all id contents (write ∷ writes) = contents_after_all id (contents_after id contents write) writes

-- a store after a write of any store
abbrev pub written : Write → Store → Store
written write store = record store { contents = contents_after store.id store.contents write }

-- A write changes the store of its id. Where no store has the id it changes nothing.
abbrev pub applied : State → Write → State
applied state write = record state { stores = map (written write) state.stores }

-- the state after these writes, in order
abbrev pub applied_all : State → List Write → State
applied_all state [] = state
applied_all state (write ∷ writes) = applied_all (applied state write) writes
