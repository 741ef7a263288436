-- How a run ends, status by status.
use Rattle.std.specs.Prelude.{◌≡◌, ℕ, ◌<◌, ◌≤◌, List, [], ◌∷◌, ◌++◌, length, Option, Some, IfSome}
use Rattle.std.specs.Io.KnownBytes.{Appends}
use Rattle.std.specs.List.{AllByRecursion}
use Rattle.hse_io.specs.Lines.{lines_of, first_line}
use Rattle.hse_io.specs.Longest.{longest_line}
use Rattle.hse_io.specs.declared.outcome.Mark.{Mark}
use Rattle.hse_io.specs.declared.outcome.Status.{Status}
use Rattle.hse_io.specs.declared.outcome.Status.TheVariants as status
use Rattle.media_disk.specs.declared.device.Device.{Ghosts}
use Rattle.hse_shell.specs.Base.{Base}
use Rattle.hse_shell.specs.Machine.{Machine, opening, number_of, base_at, all_synced}
use Rattle.hse_shell.specs.Replies.{opened_text, not_formed_text}
use Rattle.hse_shell.specs.Runs.{replies, output}
use Rattle.hse_shell.specs.Stored.{Begins, Stores, IsRefusedAt}
use Rattle.hse_shell.specs.Marks.{Marked}
use Rattle.hse_shell.specs.Turns.{RepliedInPart, ClosedFront, IsAsked, IsSpoken, IsAskedAtLast, IsRefusedAtLast}
use Rattle.hse_shell.specs.Logged.{Stays, WasEmptyOrStays}
use Rattle.hse_shell.specs.Ending.{status_text, AppendsFront, AppendsOrFails}
use Rattle.hse_shell.specs.SoFar.{Start, Took, Ran, IsShort, script_length, script_limit}

-- The whole input was taken, and what was written is the output of a run of the machine over its lines. The
-- device stores the run's history, and nothing is pending.
pub record RanToEnd {D : Type 0} (g : Ghosts D) (start : Start D) (left after : Option (List ℕ)) (disk : D) (marks : List Mark) : Type 0 where
  pub ran : Ran g start left
  pub whole : IfSome start.input (λ all. (ran.lines ≡ lines_of all) × (left ≡ Some []))
  pub within : script_length ran.lines < script_limit
  pub wrote : Appends start.held after (output ran.base.number ran.answers (number_of ran.state))
  pub stores : g.tells → Stores (g.seen disk) (base_at ran.state (length ran.state.history))
  pub durable : g.tells → g.pending disk ≡ []
  pub marked : Marked g disk marks (all_synced ran.state)

-- Each line that was taken has its reply written, and they are within the limit on scripts.
pub record Answered {D : Type 0} (g : Ghosts D) (start : Start D) (left after : Option (List ℕ)) : Type 0 where
  pub ran : Ran g start left
  pub wrote : Appends start.held after (replies ran.base.number ran.answers)
  pub within : script_length ran.lines < script_limit

-- Each line that was answered is one of the input's, from the first one on; reading on failed.
pub record FailedToRead {D : Type 0} (g : Ghosts D) (start : Start D) (after : Option (List ℕ)) (disk : D) (marks : List Mark) : Type 0 where
  pub rest : Option (List ℕ)
  pub answered : Answered g start rest after
  pub marked : Marked g disk marks answered.ran.state

-- The next line is longer than a line may be.
pub record MeetsLongLine {D : Type 0} (g : Ghosts D) (start : Start D) (after : Option (List ℕ)) (disk : D) (marks : List Mark) : Type 0 where
  pub rest : Option (List ℕ)
  pub answered : Answered g start rest after
  pub long : IfSome rest (λ bytes. longest_line < length (first_line bytes))
  pub marked : Marked g disk marks answered.ran.state

-- The last line brought the sum to the limit on scripts.
pub record MeetsLimit {D : Type 0} (g : Ghosts D) (start : Start D) (left after : Option (List ℕ)) (disk : D) (marks : List Mark) : Type 0 where
  pub ran : Ran g start left
  pub wrote : Appends start.held after (replies ran.base.number ran.answers)
  pub front : List (List ℕ)
  pub last : List ℕ
  pub lines_are : ran.lines ≡ front ++ last ∷ []
  pub within : script_length front < script_limit
  pub reached : script_limit ≤ script_length ran.lines
  pub marked : Marked g disk marks ran.state

-- The device was not opened, nothing was taken or written, and a device that held something stays as it was.
pub record Unopened {D : Type 0} (g : Ghosts D) (start : Start D) (left after : Option (List ℕ)) (disk : D) (marks : List Mark) : Type 0 where
  pub unread : left ≡ start.input
  pub silent : Appends start.held after []
  pub unmarked : marks ≡ []
  pub stays : WasEmptyOrStays g start.device disk

-- The device was opened, and a front of the opening's line was written, but nothing taken.
pub record OpenedInPart {D : Type 0} (g : Ghosts D) (start : Start D) (left after : Option (List ℕ)) (disk : D) (marks : List Mark) : Type 0 where
  pub unread : left ≡ start.input
  pub base : Base
  pub begins : g.tells → Begins (g.seen start.device) base
  pub front : AppendsFront start.held after (opened_text base.number)
  pub marked : Marked g disk marks (opening base)

-- One line more was taken, which has no reply.
pub record LeftUnanswered {D : Type 0} (g : Ghosts D) (Fits : Machine → List ℕ → D → List Mark → Type 0) (start : Start D) (left after : Option (List ℕ)) (disk : D) (marks : List Mark) : Type 0 where
  pub rest : Option (List ℕ)
  pub answered : Answered g start rest after
  pub line : List ℕ
  pub short : IsShort line
  pub took : Took start.input (answered.ran.lines ++ line ∷ []) left
  pub fits : Fits answered.ran.state line disk marks

-- The input is at its end.
pub record LeftUnclosed {D : Type 0} (g : Ghosts D) (Fits : Machine → D → List Mark → Type 0) (start : Start D) (left after : Option (List ℕ)) (disk : D) (marks : List Mark) : Type 0 where
  pub answered : Answered g start left after
  pub ended : IfSome start.input (λ all. left ≡ Some [])
  pub fits : Fits answered.ran.state disk marks

-- Where the device fails: while it is opened; in a line; or while the run closes.
pub data DeviceFails {D : Type 0} (g : Ghosts D) (start : Start D) (left after : Option (List ℕ)) (disk : D) (marks : List Mark) : Type 0 where
  at_opening : Unopened g start left after disk marks → DeviceFails g start left after disk marks
  at_line : LeftUnanswered g (IsAsked g) start left after disk marks → DeviceFails g start left after disk marks
  at_closing : LeftUnclosed g (IsAskedAtLast g) start left after disk marks → DeviceFails g start left after disk marks

-- Where memory is refused: before the device is open; for the opening's line; for the reply to a line; or in the closing.
pub data MemoryFails {D : Type 0} (g : Ghosts D) (start : Start D) (left after : Option (List ℕ)) (disk : D) (marks : List Mark) : Type 0 where
  before_opening : Unopened g start left after disk marks → MemoryFails g start left after disk marks
  for_opening : OpenedInPart g start left after disk marks → Appends start.held after [] → MemoryFails g start left after disk marks
  for_line : LeftUnanswered g (IsSpoken g) start left after disk marks → MemoryFails g start left after disk marks
  for_closing : LeftUnclosed g (IsRefusedAtLast g) start left after disk marks → MemoryFails g start left after disk marks

-- A line more was taken, and a front of an answer of the machine's was written.
pub record AnsweredInPart {D : Type 0} (g : Ghosts D) (start : Start D) (left after : Option (List ℕ)) (disk : D) (marks : List Mark) : Type 0 where
  pub rest : Option (List ℕ)
  pub between : Option (List ℕ)
  pub answered : Answered g start rest between
  pub line : List ℕ
  pub short : IsShort line
  pub took : Took start.input (answered.ran.lines ++ line ∷ []) left
  pub reply : RepliedInPart g answered.ran.state line between after disk marks

-- The input is at its end, and a front of the last line was written.
pub record ClosedInPart {D : Type 0} (g : Ghosts D) (start : Start D) (left after : Option (List ℕ)) (disk : D) (marks : List Mark) : Type 0 where
  pub between : Option (List ℕ)
  pub answered : Answered g start left between
  pub ended : IfSome start.input (λ all. left ≡ Some [])
  pub closed : ClosedFront g answered.ran.state between after disk marks

-- Where writing fails: in the opening's line, in a reply, or in the last line.
pub data WroteFront {D : Type 0} (g : Ghosts D) (start : Start D) (left after : Option (List ℕ)) (disk : D) (marks : List Mark) : Type 0 where
  of_opening : OpenedInPart g start left after disk marks → WroteFront g start left after disk marks
  of_reply : AnsweredInPart g start left after disk marks → WroteFront g start left after disk marks
  of_closing : ClosedInPart g start left after disk marks → WroteFront g start left after disk marks

-- How a run stops before its first line is written whole.
abbrev pub Greets : Status → ℕ → Option (List ℕ) → Option (List ℕ) → Type 0
Greets status.WriteFault number before after = AppendsFront before after (opened_text number)
Greets status.NoMemory number before after = Appends before after []
Greets ended number before after = ⊥

-- What was taken, written and left when a run ended early, but for the status's own line.
abbrev pub Stops : {D : Type 0} → Ghosts D → Status → Start D → Option (List ℕ) → Option (List ℕ) → D → List Mark → Type 0
Stops g status.ReadFault start left after disk marks = FailedToRead g start after disk marks
Stops g status.WriteFault start left after disk marks = WroteFront g start left after disk marks
Stops g status.DeviceFault start left after disk marks = DeviceFails g start left after disk marks
Stops g status.NoMemory start left after disk marks = MemoryFails g start left after disk marks
Stops g status.LineTooLong start left after disk marks = MeetsLongLine g start after disk marks
Stops g status.ScriptTooLong start left after disk marks = MeetsLimit g start left after disk marks
Stops g status.Done start left after disk marks = ⊥
Stops g status.Usage start left after disk marks = ⊥
Stops g status.NotFormed start left after disk marks = ⊥
Stops g status.NotEmpty start left after disk marks = ⊥
Stops g status.BadParams start left after disk marks = ⊥
Stops g status.Refused start left after disk marks = ⊥

-- how a run ends once its store is open, but for the status's own line
abbrev pub EndsServed : {D : Type 0} → Ghosts D → Status → Start D → Option (List ℕ) → Option (List ℕ) → D → List Mark → Type 0
EndsServed g status.Done start left after disk marks = RanToEnd g start left after disk marks
EndsServed g ended start left after disk marks = Stops g ended start left after disk marks

-- The device is refused at this place, which was told; it stays as it was, and no line was taken.
pub record IsNotFormed {D : Type 0} (g : Ghosts D) (start : Start D) (left after : Option (List ℕ)) (faults now : ℕ) (disk : D) (marks : List Mark) : Type 0 where
  pub place : ℕ
  pub refused : g.tells → IsRefusedAt (g.seen start.device) place
  pub unread : left ≡ start.input
  pub unmarked : marks ≡ []
  pub stays : g.tells → Stays g start.device disk
  pub told : AppendsOrFails faults now start.held after (not_formed_text place)

-- how a run ends, whatever the device held, but for the status's own line
abbrev pub EndsTold : {D : Type 0} → Ghosts D → Status → Start D → Option (List ℕ) → Option (List ℕ) → ℕ → ℕ → D → List Mark → Type 0
EndsTold g status.NotFormed start left after faults now disk marks = IsNotFormed g start left after faults now disk marks
EndsTold g ended start left after faults now disk marks = EndsServed g ended start left after disk marks

-- The run ended early, and then the status's line was written, or a front of it and the sink failed.
pub record EndsEarly {D : Type 0} (g : Ghosts D) (ended : Status) (start : Start D) (left after : Option (List ℕ)) (faults now : ℕ) (disk : D) (marks : List Mark) : Type 0 where
  pub written : Option (List ℕ)
  pub stops : Stops g ended start left written disk marks
  pub told : AppendsOrFails faults now written after (status_text ended)

-- How a run ends: to the end of its script, on a device that is refused, or early.
abbrev pub Ends : {D : Type 0} → Ghosts D → Status → Start D → Option (List ℕ) → Option (List ℕ) → ℕ → ℕ → D → List Mark → Type 0
Ends g status.Done start left after faults now disk marks = RanToEnd g start left after disk marks
Ends g status.NotFormed start left after faults now disk marks = IsNotFormed g start left after faults now disk marks
Ends g ended start left after faults now disk marks = EndsEarly g ended start left after faults now disk marks

-- An input of lines within their limit, that are together within the limit on scripts.
pub record IsGoodInput (input : Option (List ℕ)) : Type 0 where
  pub all : List ℕ
  pub is : input ≡ Some all
  pub short : AllByRecursion IsShort (lines_of all)
  pub within : script_length (lines_of all) < script_limit

-- An image on which a run can begin: it is empty, or formed.
abbrev pub IsGoodImage : List ℕ → Type 0
IsGoodImage image = (base : Base) × Begins image base
