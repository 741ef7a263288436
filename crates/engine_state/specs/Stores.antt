-- Creations and drops: what is asked before the device side is, and the state after them.
use Rattle.std.specs.Prelude.{◌≡◌, ℕ, ◌+◌, ◌==◌, not, nat_le, nat_lt, List, [], ◌∷◌, ◌++◌, length, Option, Some, None, Result, Ok, Err, is_some}
use Rattle.std.specs.List.{filter}
use Rattle.hse_rows.specs.declared.row_set.RowSet.{Ghosts}
use Rattle.hse_rows.specs.declared.store.Mode.{Mode}
use Rattle.hse_rows.specs.writes.Lengths.{longest_prefix}
use Rattle.hse_rows.specs.states.State.{Store, store_named}
use Rattle.hse_rows.specs.transactions.Moves.{Move}
use Rattle.hse_rows.specs.transactions.Moves as moves
use Rattle.hse_rows.specs.transactions.Timeline.{for_some}
use Rattle.hse_rows.specs.machine.Replies.{Refusal, store_exists, no_store, prefix_length, broken, too_many, spent, store_held}
use Rattle.hse_rows.specs.machine.Core.{Core, now, number_of, with_move}
use Rattle.hse_rows.specs.machine.CoreRefusal.{refuse, is_spent, unless_held, first_in_store}
use Rattle.view.specs.declared.view_store.ViewStore.{ViewStore}
use Rattle.view.specs.Views.{ViewState}
use Rattle.engine_state.specs.declared.faults.CreateFault.{CreateFault}
use Rattle.engine_state.specs.declared.faults.CreateFault.TheVariants as create_fault
use Rattle.engine_state.specs.declared.faults.DropFault.{DropFault}
use Rattle.engine_state.specs.declared.faults.DropFault.TheVariants as drop_fault
use Rattle.engine_state.specs.declared.store_event.StoreEvent.{StoreEvent}
use Rattle.engine_state.specs.Serves.{ViewServes}

-- ---- which refusal of the machine each fault is

abbrev pub SaysCreate : CreateFault → Option (Refusal ℕ) → Type 0
SaysCreate create_fault.StoreExists refusal = refusal ≡ Some store_exists
SaysCreate (create_fault.PrefixLength given) refusal = refusal ≡ Some (prefix_length given)
SaysCreate create_fault.Broken refusal = refusal ≡ Some broken
SaysCreate (create_fault.TooMany most) refusal = refusal ≡ Some (too_many most)
SaysCreate create_fault.Spent refusal = refusal ≡ Some spent
SaysCreate create_fault.NoMemory refusal = Unit {0}

abbrev pub SaysDrop : DropFault → Option (Refusal ℕ) → Type 0
SaysDrop drop_fault.NoStore refusal = refusal ≡ Some no_store
SaysDrop drop_fault.Broken refusal = refusal ≡ Some broken
SaysDrop (drop_fault.StoreHeld order) refusal = refusal ≡ Some (store_held order)
SaysDrop drop_fault.Spent refusal = refusal ≡ Some spent
SaysDrop drop_fault.NoMemory refusal = Unit {0}

-- ---- what is asked

-- a store of the name, the prefix length, the engine, the count of stores and the numbers
abbrev pub create_front : Core → List ℕ → ℕ → Option (Refusal ℕ) → Option (Refusal ℕ)
create_front m name prefix later =
    refuse (is_some (store_named (now m) name)) store_exists
    (refuse (nat_lt longest_prefix prefix) (prefix_length prefix)
    (refuse m.is_broken broken
    (refuse (nat_le m.sizes.most_stores (length (now m).stores)) (too_many m.sizes.most_stores)
    (refuse (is_spent m) spent later))))

-- the engine, the live transactions' writes in the store and the numbers, where no job runs
abbrev pub drop_front : Core → Store → Option (Refusal ℕ) → Option (Refusal ℕ)
drop_front m store later =
    refuse m.is_broken broken
    (unless_held (first_in_store m.timeline.begun store.id)
    (refuse (is_spent m) spent later))

-- The front of a table of refusals: a fault is its first, and none leaves what comes later.
abbrev pub FrontsBy : {F : Type 0} → (F → Option (Refusal ℕ) → Type 0) → Option F → (Option (Refusal ℕ) → Option (Refusal ℕ)) → Type 0
FrontsBy Says None front = (later : Option (Refusal ℕ)) → front later ≡ later
FrontsBy Says (Some fault) front = (later : Option (Refusal ℕ)) → Says fault (front later)

-- the moves that are a creation or a drop
abbrev pub IsOfStores : Move → Type 0
IsOfStores moves.begin = ⊥
IsOfStores (moves.write_in order write) = ⊥
IsOfStores (moves.write_out write) = ⊥
IsOfStores (moves.commit order) = ⊥
IsOfStores (moves.abort order) = ⊥
IsOfStores (moves.create name mode prefix) = Unit {0}
IsOfStores (moves.remove id) = Unit {0}

-- ---- stores of a view

-- the stores but that of an id
abbrev pub but : {R : Type 0} → ℕ → List (ViewStore R) → List (ViewStore R)
but {R} id stores = filter (λ (store : ViewStore R). not (store.id.0 == id)) stores

-- a view of the next number with other stores
abbrev pub with_stores : {R : Type 0} → ViewState R → List (ViewStore R) → ViewState R
with_stores view stores = record { number = view.number + 1; stores = stores; layers = view.layers }

-- a store of the next number that holds nothing
abbrev pub new_in : {R : Type 0} → ViewState R → List ℕ → Mode → ℕ → ViewStore R
new_in view name mode prefix = record {
  name = name;
  id = record { 0 = view.number + 1 };
  mode = mode;
  prefix = prefix;
  tree = record { prefix_length = prefix; nodes = [] };
}

-- one store more, in place of any of its id
abbrev pub with_new : {R : Type 0} → ViewState R → ViewStore R → ViewState R
with_new view store = with_stores view (but store.id.0 view.stores ++ store ∷ [])

module _ {R : Type 0} (g : Ghosts R) where
  -- The front refuses nothing, and the event is the creation; or the fault is the first of the front.
  abbrev pub Creates : Core → List ℕ → Mode → ℕ → Result (StoreEvent R) CreateFault → Type 0
  Creates m name mode prefix (Ok event) =
      FrontsBy SaysCreate None (create_front m name prefix)
      × (event.store.0 ≡ number_of m + 1)
      × ViewServes g event.view (with_move m (moves.create name mode prefix))
  Creates m name mode prefix (Err fault) = FrontsBy SaysCreate (Some fault) (create_front m name prefix)

  -- A store has the name, the front refuses nothing, and the event is its drop; or the fault is the first of the table.
  pub record IsDropOf (m : Core) (name : List ℕ) (event : StoreEvent R) : Type 0 where
    pub store : Store
    pub named : store_named (now m) name ≡ Some store
    pub its_id : event.store.0 ≡ store.id
    pub front : FrontsBy SaysDrop None (drop_front m store)
    pub serves : ViewServes g event.view (with_move m (moves.remove store.id))

  abbrev pub Drops : Core → List ℕ → Result (StoreEvent R) DropFault → Type 0
  Drops m name (Ok event) = IsDropOf m name event
  Drops m name (Err fault) =
      (later : Option (Refusal ℕ))
      → SaysDrop fault (for_some (store_named (now m) name) (Some no_store) (λ store. drop_front m store later))
