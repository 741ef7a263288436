-- An engine is opened again in place.
use Rattle.std.specs.Prelude.{◌≡◌, ℕ, ◌≤◌, Some, None, Result, Ok, Err}
use Rattle.media_disk.specs.Calls.{CallsMade}
use Rattle.media_disk.specs.declared.device.Device.{Ghosts}
use Rattle.hse_rows.specs.machine.Calls.{reopen}
use Rattle.hse_rows.specs.machine.Core.{Core, life}
use Rattle.hse_rows.specs.machine.CoreDone.{failing}
use Rattle.hse_rows.specs.machine.CoreRefusal.{refusal}
use Rattle.hse_rows.specs.machine.Replies.{busy}
use Rattle.recovery.specs.Answers.{OpenReports}
use Rattle.recovery.specs.Keeps.{Keeps}
use Rattle.recovery.specs.declared.fault.OpenFault.{OpenFault}
use Rattle.recovery.specs.declared.fault.OpenFault.TheVariants.{NotFormed, Version, Device, NoMemory}
use Rattle.kvdb.specs.Found.{stored_at}
use Rattle.kvdb.specs.Reopening.{last_left}
use Rattle.kvdb.specs.Sides.{kind_as}
use Rattle.kvdb.specs.declared.reopening.ReopenFault.{ReopenFault}
use Rattle.kvdb.specs.declared.reopening.ReopenFault.TheVariants as fault
use Rattle.turn_phases.specs.declared.phases.TurnPhases.{TurnPhases}
use Rattle.turn_phases.specs.Serves.{PhasesServe}

-- A life begins at what the device has of the last one, at a number that it may store.
pub record Reborn {D : Type 0} (g : Ghosts D) (m : Core) (number : ℕ) (new : TurnPhases D g) : Type 0 where
  pub reaches : m.safe ≤ number
  pub within : number ≤ last_left m
  pub serves : PhasesServe g new (life (stored_at m number))

-- Where the device tells its content it is formed. After a fault of it the engine is broken, after another one as before.
abbrev pub StaysAfter : {D : Type 0} (g : Ghosts D) → Core → OpenFault → TurnPhases D g → Type 0
StaysAfter g m (NotFormed region place) new = (g.tells → ⊥) × PhasesServe g new m
StaysAfter g m (Version version) new = (g.tells → ⊥) × PhasesServe g new m
StaysAfter g m Device new = PhasesServe g new (failing m reopen)
StaysAfter g m NoMemory new = PhasesServe g new m

-- A new life, or the machine's refusal, or what the opening answered.
abbrev pub Reopens : {D : Type 0} (g : Ghosts D) → Core → Result ℕ ReopenFault → TurnPhases D g → Type 0
Reopens g m (Ok number) new = (refusal m reopen ≡ None) × (g.tells → Reborn g m number new)
Reopens g m (Err (fault.Busy kind)) new = (refusal m reopen ≡ Some (busy (kind_as kind))) × PhasesServe g new m
Reopens g m (Err (fault.Open why)) new = (refusal m reopen ≡ None) × StaysAfter g m why new

-- ---- the device

-- Nothing is written, and it failed exactly where the answer says so. Where a turn is out no call is made.
abbrev pub ReadsDevice : {D : Type 0} (g : Ghosts D) → D → D → Result ℕ ReopenFault → Type 0
ReadsDevice g old new (Ok number) = CallsMade g old new × (g.faults new ≡ g.faults old) × Keeps g old new
ReadsDevice g old new (Err (fault.Busy kind)) = new ≡ old
ReadsDevice g old new (Err (fault.Open why)) =
    CallsMade g old new × OpenReports {T = ℕ} g old new (Err why) × Keeps g old new
