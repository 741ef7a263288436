-- What a get answers of a state.
use Rattle.std.specs.Prelude.{◌≡◌, ℕ, List, length, Option, Some, None}
use Rattle.std.specs.FinMap as fin_map
use Rattle.hse_rows.specs.writes.Lengths.{IsKeyLength}
use Rattle.hse_rows.specs.states.State.{State, Store, store_named}
use Rattle.view.specs.declared.get_fault.GetFault.{GetFault}
use Rattle.view.specs.declared.get_fault.GetFault.TheVariants.{NotActive, NoStore, KeyLength}

-- The state has a store of the name, and the key may be one: its value there, or that it has none.
pub record Gets (state : State) (name key : List ℕ) (value : Option (List ℕ)) : Type 0 where
  pub store : Store
  pub named : store_named state name ≡ Some store
  pub within : IsKeyLength (length key)
  pub holds : value ≡ fin_map.get store.contents key

pub record RefusesLength (state : State) (name key : List ℕ) (given : ℕ) : Type 0 where
  pub store : Store
  pub named : store_named state name ≡ Some store
  pub given_is : given ≡ length key
  pub outside : ¬ IsKeyLength (length key)

-- when a get is refused, by its fault
abbrev pub RefusesGet : State → List ℕ → List ℕ → GetFault → Type 0
RefusesGet state name key (NotActive ended) = ⊥
RefusesGet state name key NoStore = store_named state name ≡ None
RefusesGet state name key (KeyLength given) = RefusesLength state name key given
