-- A call of the engine is a step of the machine.
use Rattle.std.specs.Prelude.{◌≡◌, ℕ, Option, None, Result, Ok, Err}
use Rattle.hse_rows.specs.declared.row_set.RowSet.{Ghosts}
use Rattle.hse_rows.specs.machine.Replies.{Refusal, Answer}
use Rattle.hse_rows.specs.machine.Calls.{Call}
use Rattle.hse_rows.specs.machine.Core.{Core}
use Rattle.hse_rows.specs.machine.CoreRefusal.{refusal}
use Rattle.hse_rows.specs.machine.CoreReply.{reply}
use Rattle.hse_rows.specs.machine.CoreDone.{done}
use Rattle.engine_state.specs.declared.state.EngineState.{EngineState}
use Rattle.engine_state.specs.Serves.{Serves}

module _ {R : Type 0} (g : Ghosts R) where
  -- Nothing refuses the call, the answer is the machine's, and the engine stands for what it leads to.
  pub record IsDone (m : Core) (call : Call) (answer : Answer ℕ) (new : EngineState R g) : Type 0 where
    pub unrefused : refusal m call ≡ None
    pub replied : answer ≡ reply m call
    pub serves : Serves g new (done m call)

  -- A fault is the first refusal of the table, but for want of memory, and the engine stands for what it stood for.
  abbrev pub Steps : {X F : Type 0} → (X → Answer ℕ) → (F → Option (Refusal ℕ) → Type 0) → Core → Call → Result X F → EngineState R g → Type 0
  Steps told Says m call (Ok x) new = IsDone m call (told x) new
  Steps told Says m call (Err fault) new = Says fault (refusal m call) × Serves g new m
