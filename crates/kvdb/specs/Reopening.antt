-- How an engine is opened again in place.
use Rattle.std.specs.Prelude.{◌≡◌, ℕ, ◌≤◌, Bool, true, false, Some, None, Result, Ok, Err}
use Rattle.media_disk.specs.Calls.{CallsMade}
use Rattle.media_disk.specs.declared.device.Device.{Ghosts}
use Rattle.hse_rows.specs.machine.Calls.{reopen}
use Rattle.hse_rows.specs.machine.Core.{Core, number_of, life}
use Rattle.hse_rows.specs.machine.CoreDone.{failing}
use Rattle.hse_rows.specs.machine.CoreRefusal.{refusal}
use Rattle.hse_rows.specs.machine.Replies.{busy}
use Rattle.recovery.specs.Answers.{OpenReports}
use Rattle.recovery.specs.Keeps.{Keeps}
use Rattle.recovery.specs.declared.fault.OpenFault.{OpenFault}
use Rattle.recovery.specs.declared.fault.OpenFault.TheVariants.{NotFormed, Version, Device, NoMemory}
use Rattle.back.specs.declared.back.Back.{Back}
use Rattle.kvdb.specs.Found.{stored_at}
use Rattle.kvset.specs.Reading.{Contents}
use Rattle.engine_state.specs.Serves as state
use Rattle.engine_state.specs.declared.state.EngineState.{EngineState}
use Rattle.kvdb.specs.Serves.{of_sets, Serves}
use Rattle.kvdb.specs.Sides.{device_in, kind_as}
use Rattle.kvdb.specs.declared.engine.Kvdb.{Kvdb}
use Rattle.kvdb.specs.declared.reopening.ReopenFault.{ReopenFault}
use Rattle.kvdb.specs.declared.reopening.ReopenFault.TheVariants as fault
use Rattle.kvdb.specs.declared.side.Side.{Side}
use Rattle.kvdb.specs.declared.side.Side.TheVariants as side

-- the last number that a device may store: the safe one, unless a device call failed
abbrev pub last_by : Core → Bool → ℕ
last_by m false = m.safe
last_by m true = number_of m

abbrev pub last_left : Core → ℕ
last_left m = last_by m m.is_broken

-- The engine begins a life at what the device has of the last one, at a number that it may store.
pub record Reborn {D : Type 0} (g : Ghosts D) (m : Core) (number : ℕ) (new : Kvdb D g) : Type 0 where
  pub reaches : m.safe ≤ number
  pub within : number ≤ last_left m
  pub serves : Serves g new (life (stored_at m number))

-- the state in memory after an opening that answered this
abbrev pub IsNoted : Core → OpenFault → EngineState Contents of_sets → Type 0
IsNoted m (NotFormed region place) new = state.Serves of_sets new m
IsNoted m (Version version) new = state.Serves of_sets new m
IsNoted m Device new = (handed : ℕ) → state.ServesAbove of_sets new (record m { is_broken = true }) handed
IsNoted m NoMemory new = state.Serves of_sets new m

-- Where the device tells its content it is formed. After a fault of it the engine is broken, after another one as before.
abbrev pub StaysAfter : {D : Type 0} (g : Ghosts D) → Core → OpenFault → Kvdb D g → Type 0
StaysAfter g m (NotFormed region place) new = (g.tells → ⊥) × Serves g new m
StaysAfter g m (Version version) new = (g.tells → ⊥) × Serves g new m
StaysAfter g m Device new = Serves g new (failing m reopen)
StaysAfter g m NoMemory new = Serves g new m

-- A new life, or the machine's refusal, or what the opening answered.
abbrev pub Reopens : {D : Type 0} (g : Ghosts D) → Core → Result ℕ ReopenFault → Kvdb D g → Type 0
Reopens g m (Ok number) new = (refusal m reopen ≡ None) × (g.tells → Reborn g m number new)
Reopens g m (Err (fault.Busy kind)) new = (refusal m reopen ≡ Some (busy (kind_as kind))) × Serves g new m
Reopens g m (Err (fault.Open why)) new = (refusal m reopen ≡ None) × StaysAfter g m why new

-- ---- the device

-- it failed exactly where the answer says so
abbrev pub ReopenReports : {D : Type 0} → Ghosts D → D → D → Result ℕ ReopenFault → Type 0
ReopenReports g old new (Ok number) = g.faults new ≡ g.faults old
ReopenReports g old new (Err (fault.Busy kind)) = ⊥
ReopenReports g old new (Err (fault.Open why)) = OpenReports {T = ℕ} g old new (Err why)

-- Nothing is written.
pub record ReadsDevice {D : Type 0} (g : Ghosts D) (old : D) (left : Side D g) (result : Result ℕ ReopenFault) : Type 0 where
  pub new : D
  pub is : device_in left ≡ Some new
  pub calls : CallsMade g old new
  pub reports : ReopenReports g old new result
  pub keeps : Keeps g old new

-- A device side that is out stays so.
abbrev pub LeavesSide : {D : Type 0} (g : Ghosts D) → Side D g → Side D g → Result ℕ ReopenFault → Type 0
LeavesSide g (side.In back) new result = ReadsDevice g back.disk new result
LeavesSide g (side.Out what number) new result = new ≡ side.Out what number

-- its places are those of before
pub record HasPlacesOf {D : Type 0} {g : Ghosts D} (old new : Back D g) : Type 0 where
  pub layout : new.layout ≡ old.layout
  pub log : new.log ≡ old.log
  pub manifest : new.manifest ≡ old.manifest

-- A device side is the one of before, but for its disk where it is in.
abbrev pub IsSameSide : {D : Type 0} {g : Ghosts D} → Side D g → Side D g → Type 0
IsSameSide (side.In old) (side.In new) = HasPlacesOf old new
IsSameSide (side.In old) (side.Out what number) = ⊥
IsSameSide (side.Out what number) new = new ≡ side.Out what number
