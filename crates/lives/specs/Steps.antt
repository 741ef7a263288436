-- A call that adds no mark is a step of the story.
use Rattle.std.specs.Prelude.{◌≡◌, ℕ, Option, None, Result, Ok, Err}
use Rattle.media_disk.specs.declared.device.Device.{Ghosts}
use Rattle.hse_rows.specs.machine.Replies.{Refusal, Answer}
use Rattle.hse_rows.specs.machine.Calls.{Call}
use Rattle.hse_rows.specs.machine.CoreRefusal.{refusal}
use Rattle.hse_rows.specs.machine.CoreReply.{reply}
use Rattle.lives.specs.Serves.{LivesServe}
use Rattle.lives.specs.Stories.{Story, stepped}
use Rattle.lives.specs.declared.run.Lives.{Lives}

-- Nothing refuses the call, the answer is the machine's, and the new ones stand for where the story goes.
pub record IsDone {D : Type 0} (g : Ghosts D) (s : Story) (call : Call) (answer : Answer ℕ) (new : Lives D g) : Type 0 where
  pub unrefused : refusal s.machine call ≡ None
  pub replied : answer ≡ reply s.machine call
  pub serves : LivesServe g new (stepped s call)

-- A fault is the first refusal of the table, but for want of memory, and what was served is served.
abbrev pub Steps : {D X F : Type 0} (g : Ghosts D) → (X → Answer ℕ) → (F → Option (Refusal ℕ) → Type 0) → Story → Call → Result X F → Lives D g → Type 0
Steps g told Says s call (Ok x) new = IsDone g s call (told x) new
Steps g told Says s call (Err fault) new = Says fault (refusal s.machine call) × LivesServe g new s
