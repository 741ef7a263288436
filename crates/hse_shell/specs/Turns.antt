-- What one line does, to the engine alone, with the device, and on the sink.
use Rattle.std.specs.Prelude.{◌≡◌, ◌≢◌, ◌⊎◌, ℕ, List, [], ◌++◌, length, Option, Result, Ok, Err, OnOk}
use Rattle.std.specs.Io.KnownBytes.{Appends}
use Rattle.hse_io.specs.declared.outcome.Mark.{Mark}
use Rattle.hse_io.specs.declared.outcome.Status.{Status}
use Rattle.hse_io.specs.declared.outcome.Status.TheVariants as status
use Rattle.media_disk.specs.declared.device.Device.{Ghosts}
use Rattle.hse_shell.specs.Grammar.{Meaning, Means, IsSync, IsSilent, syncs}
use Rattle.hse_shell.specs.Replies.{Answer, no_reply, answer_line, closed_text}
use Rattle.hse_shell.specs.Machine.{Machine, Step, led_to, number_of, base_at, all_synced, unsynced}
use Rattle.hse_shell.specs.Marks.{Marked}
use Rattle.hse_shell.specs.Stands.{Answers}
use Rattle.hse_shell.specs.Logged.{ServesLine}
use Rattle.hse_shell.specs.Ending.{AppendsFront}
use Rattle.hse_shell.specs.Stored.{Stores}
use Rattle.hse_shell.specs.declared.engine.Engine.{Engine}
use Rattle.hse_shell.specs.declared.turn.Stop.{Stop}
use Rattle.hse_shell.specs.declared.turn.Stop.TheVariants as stop

-- The line got an answer of the machine's. The log and the marks stay. Where the answer was printed it was added to
-- the text.
pub record Said {E : Type 0} (m : Machine) (line : Meaning) (old new : Engine) (before after : List ℕ) (printed : Result (Unit {0}) E) : Type 0 where
  pub answer : Answer
  pub answers : Answers m line answer new
  pub spoken : answer ≢ no_reply
  pub said : OnOk printed (after ≡ before ++ answer_line answer)
  pub tail : new.tail ≡ old.tail
  pub marks : new.marks ≡ old.marks

-- The bytes of a line got an answer of the machine's.
pub record Turned {D : Type 0} (g : Ghosts D) (m : Machine) (line : List ℕ) (disk : D) (engine : Engine) : Type 0 where
  pub meaning : Meaning
  pub answer : Answer
  pub means : Means line meaning
  pub turned : ServesLine g m meaning answer disk engine

-- commits wait for a sync
abbrev pub Waits : Machine → Type 0
Waits m = unsynced m ≢ []

-- What a sync came to: an answer that was added to the text; an answer for whose text there was no memory; or a
-- device that failed while commits waited.
abbrev pub SyncTurns : {D : Type 0} → Ghosts D → Machine → List ℕ → List ℕ → D → Engine → Result (Unit {0}) Stop → Type 0
SyncTurns g m before after disk engine (Ok done) = (answer : Answer) × ServesLine g m syncs answer disk engine × (after ≡ before ++ answer_line answer)
SyncTurns g m before after disk engine (Err stop.NoMemory) = (answer : Answer) × ServesLine g m syncs answer disk engine
SyncTurns g m before after disk engine (Err stop.Device) = Waits m × Marked g disk engine.marks.items m

-- What a line came to: an answer that was added to the text; an answer for whose text there was no memory; or a
-- device that failed in a sync of waiting commits.
abbrev pub Turns : {D : Type 0} → Ghosts D → Machine → List ℕ → List ℕ → List ℕ → D → Engine → Result (Unit {0}) Stop → Type 0
Turns g m line before after disk engine (Ok done) = (t : Turned g m line disk engine) × (after ≡ before ++ answer_line t.answer)
Turns g m line before after disk engine (Err stop.NoMemory) = Turned g m line disk engine × (IsSilent line → ⊥)
Turns g m line before after disk engine (Err stop.Device) = IsSync line × Waits m × Marked g disk engine.marks.items m

-- The line got an answer of the machine's, which was written.
pub record Replied {D : Type 0} (g : Ghosts D) (m : Machine) (line : List ℕ) (before after : Option (List ℕ)) (disk : D) (engine : Engine) : Type 0 where
  pub turned : Turned g m line disk engine
  pub wrote : Appends before after (answer_line turned.answer)

-- The line may get this answer of the machine's, and the run leaves the state to which it leads.
pub record Led {D : Type 0} (g : Ghosts D) (m : Machine) (line : List ℕ) (disk : D) (marks : List Mark) : Type 0 where
  pub meaning : Meaning
  pub answer : Answer
  pub means : Means line meaning
  pub step : Step m meaning answer (led_to m meaning answer)
  pub marked : Marked g disk marks (led_to m meaning answer)

-- A front of that answer was written.
pub record RepliedInPart {D : Type 0} (g : Ghosts D) (m : Machine) (line : List ℕ) (before after : Option (List ℕ)) (disk : D) (marks : List Mark) : Type 0 where
  pub led : Led g m line disk marks
  pub front : AppendsFront before after (answer_line led.answer)

-- The device is asked in a sync, and in the closing, and only where commits wait.
abbrev pub IsAsked : {D : Type 0} → Ghosts D → Machine → List ℕ → D → List Mark → Type 0
IsAsked g m line disk marks = IsSync line × Waits m × Marked g disk marks m

-- Memory may be refused for the reply to a line that has one.
abbrev pub IsSpoken : {D : Type 0} → Ghosts D → Machine → List ℕ → D → List Mark → Type 0
IsSpoken g m line disk marks = (IsSilent line → ⊥) × Led g m line disk marks

-- Why a line has no reply: the device failed, memory was refused for a reply, or writing failed.
abbrev pub Unreplied : {D : Type 0} → Ghosts D → Status → Machine → List ℕ → Option (List ℕ) → Option (List ℕ) → D → List Mark → Type 0
Unreplied g status.DeviceFault m line before after disk marks = IsAsked g m line disk marks × Appends before after []
Unreplied g status.NoMemory m line before after disk marks = IsSpoken g m line disk marks × Appends before after []
Unreplied g status.WriteFault m line before after disk marks = RepliedInPart g m line before after disk marks
Unreplied g ended m line before after disk marks = ⊥

-- The last line was written, and the device stores the whole history.
pub record Closed {D : Type 0} (g : Ghosts D) (m : Machine) (before after : Option (List ℕ)) (disk : D) (marks : List Mark) : Type 0 where
  pub wrote : Appends before after (closed_text (number_of m))
  pub stores : g.tells → Stores (g.seen disk) (base_at m (length m.history))
  pub durable : g.tells → g.pending disk ≡ []
  pub marked : Marked g disk marks (all_synced m)

-- All commits are safe, and a front of the last line was written.
pub record ClosedFront {D : Type 0} (g : Ghosts D) (m : Machine) (before after : Option (List ℕ)) (disk : D) (marks : List Mark) : Type 0 where
  pub front : AppendsFront before after (closed_text (number_of m))
  pub marked : Marked g disk marks (all_synced m)

-- The device failed in the closing: the waiting commits are safe or not.
abbrev pub IsAskedAtLast : {D : Type 0} → Ghosts D → Machine → D → List Mark → Type 0
IsAskedAtLast g m disk marks = Waits m × Marked g disk marks m

-- Memory was refused in the closing, before or after all commits were safe.
abbrev pub IsRefusedAtLast : {D : Type 0} → Ghosts D → Machine → D → List Mark → Type 0
IsRefusedAtLast g m disk marks = Marked g disk marks m ⊎ Marked g disk marks (all_synced m)

-- What was written of the last line: all, a front where writing fails, or nothing where memory was refused.
abbrev pub Parts : Status → ℕ → Option (List ℕ) → Option (List ℕ) → Type 0
Parts status.Done number before after = Appends before after (closed_text number)
Parts status.WriteFault number before after = AppendsFront before after (closed_text number)
Parts status.NoMemory number before after = Appends before after []
Parts ended number before after = ⊥

-- How a run closes: with its last line, of which a front was written where writing fails; with no line where
-- the device failed or memory was refused.
abbrev pub Closes : {D : Type 0} → Ghosts D → Status → Machine → Option (List ℕ) → Option (List ℕ) → D → List Mark → Type 0
Closes g status.Done m before after disk marks = Closed g m before after disk marks
Closes g status.WriteFault m before after disk marks = ClosedFront g m before after disk marks
Closes g status.DeviceFault m before after disk marks = IsAskedAtLast g m disk marks × Appends before after []
Closes g status.NoMemory m before after disk marks = IsRefusedAtLast g m disk marks × Appends before after []
Closes g ended m before after disk marks = ⊥
