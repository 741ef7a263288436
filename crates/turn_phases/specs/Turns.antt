-- The phases of a turn, one by one and in a row.
use Rattle.std.specs.Prelude.{◌≡◌, ℕ, Option, Some, None, Result, Ok, Err}
use Rattle.hse_io.specs.Faults.{Rose}
use Rattle.media_disk.specs.declared.device.Device.{Ghosts}
use Rattle.hse_rows.specs.machine.Turn.{TurnWish, Calls}
use Rattle.hse_rows.specs.machine.Calls.{take, write_turn, end_turn}
use Rattle.hse_rows.specs.machine.Replies.{Refusal, broken, turn_is, ok, written}
use Rattle.hse_rows.specs.machine.Core.{Core}
use Rattle.hse_rows.specs.machine.CoreRefusal.{refusal}
use Rattle.hse_rows.specs.machine.CoreReply.{reply}
use Rattle.hse_rows.specs.machine.CoreDone.{done, refused_to, failing}
use Rattle.kvdb.specs.Says.{SaysTurn}
use Rattle.turn_phases.specs.declared.faults.EndFault.{EndFault}
use Rattle.turn_phases.specs.declared.faults.EndFault.TheVariants as end_fault
use Rattle.turn_phases.specs.declared.faults.WholeFault.{WholeFault}
use Rattle.turn_phases.specs.declared.faults.WholeFault.TheVariants as whole_fault
use Rattle.turn_phases.specs.declared.faults.RunFault.{RunFault}
use Rattle.turn_phases.specs.declared.faults.RunFault.TheVariants as run_fault
use Rattle.turn_phases.specs.declared.phases.TurnPhases.{TurnPhases}
use Rattle.turn_phases.specs.Faults.{phase_as}
use Rattle.turn_phases.specs.Serves.{PhasesServe}
use Rattle.turn_phases.specs.Steps.{IsDone}

-- ---- the device calls

-- The turn made its device calls; or none was there that had not; or one failed, of a turn that calls the device.
abbrev pub Writes : {D : Type 0} (g : Ghosts D) → Core → Result (Unit {0}) RunFault → TurnPhases D g → Type 0
Writes g m (Ok done) new = IsDone g m write_turn written new
Writes g m (Err (run_fault.Phase phase)) new =
    (refusal m write_turn ≡ Some (turn_is (phase_as phase))) × PhasesServe g new m
Writes g m (Err run_fault.Device) new =
    (refusal m write_turn ≡ None) × Calls m.turn × PhasesServe g new (failing m write_turn)

-- the count of faults rose exactly where a device call failed
abbrev pub WriteReports : ℕ → ℕ → Result (Unit {0}) RunFault → Type 0
WriteReports old new (Ok done) = new ≡ old
WriteReports old new (Err (run_fault.Phase phase)) = new ≡ old
WriteReports old new (Err run_fault.Device) = Rose old new

-- ---- the end

-- why the machine refuses it, and where that leads: a turn that failed is given back
abbrev pub EndSays : EndFault → Option (Refusal ℕ) → Type 0
EndSays (end_fault.Phase phase) reason = reason ≡ Some (turn_is (phase_as phase))
EndSays end_fault.Broken reason = reason ≡ Some broken

abbrev pub Ends : {D : Type 0} (g : Ghosts D) → Core → Result ℕ EndFault → TurnPhases D g → Type 0
Ends g m (Ok number) new = IsDone g m end_turn (ok number) new
Ends g m (Err fault) new = EndSays fault (refusal m end_turn) × PhasesServe g new (refused_to m end_turn)

-- ---- all three

-- the state when the turn was taken
abbrev pub taken_for : Core → TurnWish → Core
taken_for m what = done m (take what)

-- and when its device calls were made
abbrev pub written_for : Core → TurnWish → Core
written_for m what = done (taken_for m what) write_turn

-- the state after all three phases
abbrev pub turned : Core → TurnWish → Core
turned m what = done (written_for m what) end_turn

-- and where a device call failed: the engine is broken and the turn is back, and what its taking did stays
abbrev pub turned_badly : Core → TurnWish → Core
turned_badly m what = refused_to (failing (taken_for m what) write_turn) end_turn

-- The turn was taken, made its device calls and ended. A fault is the first refusal of the taking; or a device call failed.
abbrev pub TurnsWhole : {D : Type 0} (g : Ghosts D) → Core → TurnWish → Result ℕ WholeFault → TurnPhases D g → Type 0
TurnsWhole g m what (Ok number) new =
    (refusal m (take what) ≡ None) × (ok number ≡ reply (written_for m what) end_turn) × PhasesServe g new (turned m what)
TurnsWhole g m what (Err (whole_fault.Refused fault)) new = SaysTurn fault (refusal m (take what)) × PhasesServe g new m
TurnsWhole g m what (Err whole_fault.Device) new =
    (refusal m (take what) ≡ None) × Calls (taken_for m what).turn × PhasesServe g new (turned_badly m what)

-- the count of faults rose exactly where a device call failed
abbrev pub WholeReports : ℕ → ℕ → Result ℕ WholeFault → Type 0
WholeReports old new (Ok number) = new ≡ old
WholeReports old new (Err (whole_fault.Refused fault)) = new ≡ old
WholeReports old new (Err whole_fault.Device) = Rose old new

-- a turn that was not taken leaves the device as it was
abbrev pub StaysRefused : {D : Type 0} → D → D → Result ℕ WholeFault → Type 0
StaysRefused old new (Ok number) = Unit {0}
StaysRefused old new (Err (whole_fault.Refused fault)) = new ≡ old
StaysRefused old new (Err whole_fault.Device) = Unit {0}
