-- A call of a session is a step of the machine, whatever turn is out.
use Rattle.std.specs.Prelude.{◌≡◌, ℕ, Option, None, Result, Ok, Err}
use Rattle.media_disk.specs.declared.device.Device.{Ghosts}
use Rattle.hse_rows.specs.machine.Replies.{Refusal, Answer}
use Rattle.hse_rows.specs.machine.Calls.{Call}
use Rattle.hse_rows.specs.machine.Core.{Core}
use Rattle.hse_rows.specs.machine.CoreRefusal.{refusal}
use Rattle.hse_rows.specs.machine.CoreReply.{reply}
use Rattle.hse_rows.specs.machine.CoreDone.{done}
use Rattle.turn_phases.specs.declared.phases.TurnPhases.{TurnPhases}
use Rattle.turn_phases.specs.Serves.{PhasesServe}

-- Nothing refuses the call, the answer is the machine's, and the new ones stand for what it leads to.
pub record IsDone {D : Type 0} (g : Ghosts D) (m : Core) (call : Call) (answer : Answer ℕ) (new : TurnPhases D g) : Type 0 where
  pub unrefused : refusal m call ≡ None
  pub replied : answer ≡ reply m call
  pub serves : PhasesServe g new (done m call)

-- A fault is the first refusal of the table, but for want of memory, and what was served is served.
abbrev pub Steps : {D X F : Type 0} (g : Ghosts D) → (X → Answer ℕ) → (F → Option (Refusal ℕ) → Type 0) → Core → Call → Result X F → TurnPhases D g → Type 0
Steps g told Says m call (Ok x) new = IsDone g m call (told x) new
Steps g told Says m call (Err fault) new = Says fault (refusal m call) × PhasesServe g new m
