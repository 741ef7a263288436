-- Creations and drops: the base after them, how they are planned, and what a turn of one is asked for.
use Rattle.std.specs.Prelude.{◌≡◌, ℕ, ◌+◌, ◌≤◌, List, map, Result, Ok, Err}
use Rattle.media_disk.specs.declared.device.Device.{Ghosts}
use Rattle.hse_rows.specs.declared.store.Mode.{Mode}
use Rattle.hse_rows.specs.machine.Turn as machine
use Rattle.hse_rows.specs.machine.TakenRuns.{runs_as}
use Rattle.hse_rows.specs.machine.Core.{Core, number_of}
use Rattle.hse_rows.specs.writes.Lengths.{longest_prefix}
use Rattle.hse_rows.specs.writes.Names.{IsName}
use Rattle.kvset.specs.Reading.{Contents}
use Rattle.view.specs.Views.{ViewState}
use Rattle.view.specs.declared.view_store.ViewStore.{ViewStore}
use Rattle.wal.specs.Writing as writing
use Rattle.manifest.specs.Metadata.{LiveStore, Metadata, with_taken}
use Rattle.manifest.specs.Text as a_manifest
use Rattle.manifest.specs.declared.manifest.Manifest.{Manifest}
use Rattle.back.specs.Plans.{HasRoomFor, IsPlan}
use Rattle.back.specs.declared.back.Back.{Back}
use Rattle.back.specs.declared.plan.EntryPlan.{EntryPlan}
use Rattle.back.specs.declared.plan.PlanFault.TheVariants as plan_fault
use Rattle.engine_state.specs.Stores.{Creates, IsDropOf}
use Rattle.engine_state.specs.declared.store_event.StoreEvent.{StoreEvent}
use Rattle.kvdb.specs.Serves.{of_sets}
use Rattle.kvdb.specs.declared.log_start.LogStart.{LogStart}
use Rattle.kvdb.specs.declared.side.Side.{Side}
use Rattle.kvdb.specs.declared.side.Side.TheVariants as side
use Rattle.kvdb.specs.declared.side.TurnKind.{TurnKind}
use Rattle.kvdb.specs.declared.side.TurnKind.TheVariants as kind
use Rattle.kvdb.specs.declared.turn.TurnFault.{TurnFault}
use Rattle.kvdb.specs.declared.turn.TurnFault.TheVariants as fault

-- ---- the base after an event

-- a store of a view, as a base has it
abbrev pub live_in : {R : Type 0} → ViewStore R → LiveStore
live_in store =
    record { id = store.id.0; name = store.name; mode = store.mode; prefix_length = store.prefix }

-- the stores of the view after the event of this number, which is taken with the others
abbrev pub base_in : {R : Type 0} → LogStart → ViewState R → ℕ → Metadata
base_in start view number = record {
  horizon = start.horizon;
  first_segment = start.first;
  taken = with_taken (runs_as start.taken.items) number;
  stores = map live_in view.stores;
}

-- ---- plans

-- There is no memory, or the manifest is full by these.
abbrev pub IsPlanFault : Manifest → List ℕ → List ℕ → TurnFault → Type 0
IsPlanFault manifest entry base fault.StoreExists = ⊥
IsPlanFault manifest entry base fault.NoStore = ⊥
IsPlanFault manifest entry base (fault.PrefixLength given) = ⊥
IsPlanFault manifest entry base fault.Broken = ⊥
IsPlanFault manifest entry base (fault.StoreHeld order) = ⊥
IsPlanFault manifest entry base (fault.TooMany most) = ⊥
IsPlanFault manifest entry base fault.Spent = ⊥
IsPlanFault manifest entry base (fault.Busy what) = ⊥
IsPlanFault manifest entry base (fault.ManifestFull need room) =
    IsPlan manifest entry base (Err (plan_fault.ManifestFull need room))
IsPlanFault manifest entry base fault.NoMemory = Unit {0}

-- The entry is planned, and the commits that wait have room in the log; or the fault says why not.
abbrev pub PlansIn : {D : Type 0} {g : Ghosts D} → Back D g → ℕ → List ℕ → List ℕ → Result EntryPlan TurnFault → Type 0
PlansIn back charge entry base (Ok plan) =
    (charge ≤ writing.room_in back.log) × HasRoomFor back.manifest plan × IsPlan back.manifest entry base (Ok plan)
PlansIn back charge entry base (Err why) = IsPlanFault back.manifest entry base why

-- The device side is in and plans the entry; or it is out, and that is the fault.
abbrev pub SidePlans : {D : Type 0} {g : Ghosts D} → Side D g → ℕ → List ℕ → List ℕ → Result EntryPlan TurnFault → Type 0
SidePlans (side.In back) charge entry base result = PlansIn back charge entry base result
SidePlans (side.Out what number) charge entry base (Ok plan) = ⊥
SidePlans (side.Out what number) charge entry base (Err why) = why ≡ fault.Busy what

-- ---- what a turn is asked for

-- a creation of the next number
abbrev pub creation_as : Core → List ℕ → Mode → ℕ → a_manifest.Entry
creation_as m name mode prefix =
    a_manifest.create (record { id = number_of m + 1; name = name; mode = mode; prefix_length = prefix })

-- The event is what the wish asks for, no table refuses it before the device side is asked, and the entry is the manifest's.
abbrev pub Enters : Core → machine.TurnWish → TurnKind → a_manifest.Entry → StoreEvent Contents → Type 0
Enters m machine.sync what entry event = ⊥
Enters m machine.freeze what entry event = ⊥
Enters m (machine.create name mode prefix) what entry event =
    (what ≡ kind.Create) × (entry ≡ creation_as m name mode prefix) × IsName name × (prefix ≤ longest_prefix)
    × Creates of_sets m name mode prefix (Ok event)
Enters m (machine.drop name) what entry event =
    (dropped : IsDropOf of_sets m name event) × (what ≡ kind.Drop)
    × (entry ≡ a_manifest.drop (number_of m + 1) dropped.store.id)
