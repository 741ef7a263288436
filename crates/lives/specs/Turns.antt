-- The phases of a turn, and its mark.
use Rattle.std.specs.Prelude.{◌≡◌, ℕ, Some, None, Result, Ok, Err}
use Rattle.media_disk.specs.declared.device.Device.{Ghosts}
use Rattle.hse_rows.specs.machine.Turn.{TurnWish, Calls}
use Rattle.hse_rows.specs.machine.Calls.{take, write_turn, end_turn}
use Rattle.hse_rows.specs.machine.Replies.{turn_is, ok, written}
use Rattle.hse_rows.specs.machine.CoreRefusal.{refusal}
use Rattle.hse_rows.specs.machine.CoreReply.{reply}
use Rattle.kvdb.specs.Says.{SaysTurn}
use Rattle.turn_phases.specs.Faults.{phase_as}
use Rattle.turn_phases.specs.Turns.{EndSays, taken_for, written_for}
use Rattle.turn_phases.specs.Turns as engine
use Rattle.turn_phases.specs.declared.faults.EndFault.{EndFault}
use Rattle.turn_phases.specs.declared.faults.RunFault.{RunFault}
use Rattle.turn_phases.specs.declared.faults.RunFault.TheVariants as run_fault
use Rattle.turn_phases.specs.declared.faults.WholeFault.{WholeFault}
use Rattle.turn_phases.specs.declared.faults.WholeFault.TheVariants as whole_fault
use Rattle.lives.specs.Serves.{LivesServe}
use Rattle.lives.specs.Steps.{IsDone}
use Rattle.lives.specs.Stories.{Story, ended, failed, refused, turn_failed, turned_to}
use Rattle.lives.specs.declared.faults.Unmarked.{Unmarked}
use Rattle.lives.specs.declared.faults.Unmarked.TheVariants as unmarked
use Rattle.lives.specs.declared.run.Lives.{Lives}

-- The turn made its device calls; or none was there that had not; or one failed, of a turn that calls the device.
abbrev pub Writes : {D : Type 0} (g : Ghosts D) → Story → Result (Unit {0}) RunFault → Lives D g → Type 0
Writes g s (Ok done) new = IsDone g s write_turn written new
Writes g s (Err (run_fault.Phase phase)) new =
    (refusal s.machine write_turn ≡ Some (turn_is (phase_as phase))) × LivesServe g new s
Writes g s (Err run_fault.Device) new =
    (refusal s.machine write_turn ≡ None) × Calls s.machine.turn × LivesServe g new (failed s write_turn)

-- The turn ended with a mark of its number; or the machine refuses it; or there was no room for a mark.
abbrev pub Ends : {D : Type 0} (g : Ghosts D) → Story → Result ℕ (Unmarked EndFault) → Lives D g → Type 0
Ends g s (Ok number) new =
    (refusal s.machine end_turn ≡ None) × (ok number ≡ reply s.machine end_turn) × LivesServe g new (ended s number)
Ends g s (Err (unmarked.Fault fault)) new = EndSays fault (refusal s.machine end_turn) × LivesServe g new (refused s end_turn)
Ends g s (Err unmarked.NoMemory) new = LivesServe g new s

-- The turn was taken, made its device calls and ended, with a mark of its number.
abbrev pub TurnsWhole : {D : Type 0} (g : Ghosts D) → Story → TurnWish → Result ℕ (Unmarked WholeFault) → Lives D g → Type 0
TurnsWhole g s what (Ok number) new =
    (refusal s.machine (take what) ≡ None)
    × (ok number ≡ reply (written_for s.machine what) end_turn)
    × LivesServe g new (turned_to s what number)
TurnsWhole g s what (Err (unmarked.Fault (whole_fault.Refused fault))) new =
    SaysTurn fault (refusal s.machine (take what)) × LivesServe g new s
TurnsWhole g s what (Err (unmarked.Fault whole_fault.Device)) new =
    (refusal s.machine (take what) ≡ None) × Calls (taken_for s.machine what).turn × LivesServe g new (turn_failed s what)
TurnsWhole g s what (Err unmarked.NoMemory) new = LivesServe g new s

-- the count of faults rose exactly where a device call failed
abbrev pub WholeReports : ℕ → ℕ → Result ℕ (Unmarked WholeFault) → Type 0
WholeReports old new (Ok number) = engine.WholeReports old new (Ok number)
WholeReports old new (Err (unmarked.Fault fault)) = engine.WholeReports old new (Err fault)
WholeReports old new (Err unmarked.NoMemory) = new ≡ old
