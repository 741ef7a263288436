-- How an engine is opened.
use Rattle.std.specs.Prelude.{◌≡◌, List, [], ◌∷◌, ℕ, Option, Some, Result, Ok, Err, IfErr, OnOk}
use Rattle.hse_io.specs.Faults.{next_count}
use Rattle.media_disk.specs.Calls.{CallsMade}
use Rattle.media_disk.specs.declared.device.Device.{Ghosts}
use Rattle.device_layout.specs.declared.layout.Layout.{Layout}
use Rattle.device_layout.specs.declared.params.Params.{Params}
use Rattle.hse_rows.specs.machine.Core.{life, formatted}
use Rattle.hse_rows.specs.machine.Sizes.{default_sizes}
use Rattle.recovery.specs.Answers.{IsRecovery, OpenReports}
use Rattle.recovery.specs.Formatting.{first_loaded, layout_of}
use Rattle.recovery.specs.Image.{Loaded, IsLoaded}
use Rattle.recovery.specs.Keeps.{IsBarrier, Keeps}
use Rattle.recovery.specs.Machine.{stored_of}
use Rattle.recovery.specs.declared.fault.OpenFault.{OpenFault}
use Rattle.recovery.specs.declared.fault.OpenFault.TheVariants.{NotFormed, Version, Device, NoMemory}
use Rattle.kvdb.specs.Serves.{Serves}
use Rattle.kvdb.specs.Sides.{device_in}
use Rattle.kvdb.specs.declared.engine.Kvdb.{Kvdb}

-- ---- an empty device

-- what it is made with
abbrev pub default_params : Params
default_params = record { power = 21; slots = 32; manifest = 262144; log = 4194304; stores = 256 }

abbrev pub default_layout : Layout
default_layout = layout_of default_params

-- a fault of the device, or of memory
abbrev pub IsOfDevice : OpenFault → Type 0
IsOfDevice (NotFormed region place) = ⊥
IsOfDevice (Version version) = ⊥
IsOfDevice Device = Unit {0}
IsOfDevice NoMemory = Unit {0}

-- A device that reads as no bytes is made a new one, and nothing is pending; another one stays as it is.
abbrev pub Prepares : {D : Type 0} (g : Ghosts D) → List ℕ → D → D → Result (Unit {0}) OpenFault → Type 0
Prepares g [] old new result =
    OnOk result (IsLoaded (g.seen new) (first_loaded default_layout) × (g.pending new ≡ []))
Prepares g (byte ∷ bytes) old new result = Keeps g old new

-- A device that has bytes was asked for its size, in one call; out of memory there was none.
abbrev pub AsksSize : {D : Type 0} (g : Ghosts D) → D → D → Result (Unit {0}) OpenFault → Type 0
AsksSize g old new (Ok unit) = g.clock new ≡ next_count (g.clock old)
AsksSize g old new (Err (NotFormed region place)) = ⊥
AsksSize g old new (Err (Version version)) = ⊥
AsksSize g old new (Err Device) = g.clock new ≡ next_count (g.clock old)
AsksSize g old new (Err NoMemory) = new ≡ old

-- ---- openings

-- The image is formed, and the engine begins a life at what it stores.
pub record Starts {D : Type 0} (g : Ghosts D) (image : List ℕ) (db : Kvdb D g) : Type 0 where
  pub loaded : Loaded
  pub is : IsLoaded image loaded
  pub serves : Serves g db (life (stored_of loaded))

-- The engine, or why the image is refused, as a recovery answers it. An empty device is a new one then.
abbrev pub Opens : {D : Type 0} (g : Ghosts D) → List ℕ → Result (Kvdb D g) (D × OpenFault) → Type 0
Opens g [] (Ok db) = Serves g db (life (formatted default_sizes))
Opens g [] (Err (disk, fault)) = IsOfDevice fault
Opens g (byte ∷ bytes) (Ok db) = Starts g (byte ∷ bytes) db
Opens g (byte ∷ bytes) (Err (disk, fault)) = IsRecovery (byte ∷ bytes) (Err fault)

-- the device that an opening leaves, and how it ended
abbrev pub left_by : {D : Type 0} {g : Ghosts D} → Result (Kvdb D g) (D × OpenFault) → Option D
left_by (Ok db) = device_in db.side
left_by (Err (disk, fault)) = Some disk

abbrev pub ended_as : {D : Type 0} {g : Ghosts D} → Result (Kvdb D g) (D × OpenFault) → Result (Kvdb D g) OpenFault
ended_as (Ok db) = Ok db
ended_as (Err (disk, fault)) = Err fault

-- the engine has the barrier's clock
abbrev pub HasBarrier : {D : Type 0} (g : Ghosts D) → D → D → Result (Kvdb D g) (D × OpenFault) → Type 0
HasBarrier g between new (Ok db) = IsBarrier g between new db.moment
HasBarrier g between new (Err (disk, fault)) = Unit {0}

-- What an opening does to the device: it is prepared, and then nothing is written behind a barrier. It failed exactly where
-- the answer says so. A fault of the first part is the answer.
pub record LeavesDevice {D : Type 0} (g : Ghosts D) (old : D) (result : Result (Kvdb D g) (D × OpenFault)) : Type 0 where
  pub between : D
  pub made : Result (Unit {0}) OpenFault
  pub prepared : g.tells → Prepares g (g.seen old) old between made
  pub asked : g.tells → (g.seen old ≡ [] → ⊥) → AsksSize g old between made
  pub reached : CallsMade g old between
  pub tied : IfErr made (λ fault. ended_as result ≡ Err fault)
  pub new : D
  pub left : left_by result ≡ Some new
  pub went_on : CallsMade g between new
  pub calls : CallsMade g old new
  pub reports : OpenReports g old new (ended_as result)
  pub keeps : Keeps g between new
  pub barrier : HasBarrier g between new result
