-- A run of a script up to some line.
use Rattle.std.specs.Prelude.{◌≡◌, ℕ, ◌+◌, ◌≤◌, List, ◌++◌, length, sum_by, Option, Some, IfSome}
use Rattle.std.specs.Io.KnownBytes.{Appends}
use Rattle.std.specs.List.{AllByRecursion}
use Rattle.hse_io.specs.Lines.{lines_of}
use Rattle.hse_io.specs.Longest.{longest_line, longest_script}
use Rattle.media_disk.specs.declared.device.Device.{Ghosts}
use Rattle.hse_shell.specs.Base.{Base}
use Rattle.hse_shell.specs.Stored.{Begins}
use Rattle.hse_shell.specs.Replies.{Answer}
use Rattle.hse_shell.specs.Machine.{Machine, opening}
use Rattle.hse_shell.specs.Logged.{Serves}
use Rattle.hse_shell.specs.Runs.{Run, replies}
use Rattle.hse_shell.specs.declared.engine.Engine.{Engine}

-- What a run begins with: the device as it was, the input, and what the sink held.
pub record Start (D : Type 0) : Type 0 where
  pub device : D
  pub input : Option (List ℕ)
  pub held : Option (List ℕ)

-- these lines of the input were taken, and this is left
abbrev pub Took : Option (List ℕ) → List (List ℕ) → Option (List ℕ) → Type 0
Took input lines left = IfSome input (λ all. (rest : List ℕ) × (left ≡ Some rest) × (lines_of all ≡ lines ++ lines_of rest))

-- a line within the limit on lines
abbrev pub IsShort : List ℕ → Type 0
IsShort line = length line ≤ longest_line

-- the bytes of the lines, each line counted with one byte more
abbrev pub script_length : List (List ℕ) → ℕ
script_length lines = sum_by (λ line. length line + 1) lines

-- a script's lines have fewer bytes
abbrev pub script_limit : ℕ
script_limit = longest_script + 1

-- From what the device stored these lines were taken, and these are answers of the machine to them.
pub record Ran {D : Type 0} (g : Ghosts D) (start : Start D) (left : Option (List ℕ)) : Type 0 where
  pub base : Base
  pub begins : g.tells → Begins (g.seen start.device) base
  pub lines : List (List ℕ)
  pub answers : List Answer
  pub state : Machine
  pub run : Run (opening base) lines answers state
  pub took : Took start.input lines left
  pub short : AllByRecursion IsShort lines

-- Each line that was taken has its reply written; the engine and the device serve the state they led to.
pub record SoFar {D : Type 0} (g : Ghosts D) (start : Start D) (left after : Option (List ℕ)) (disk : D) (engine : Engine) (taken : ℕ) : Type 0 where
  pub ran : Ran g start left
  pub wrote : Appends start.held after (replies ran.base.number ran.answers)
  pub counted : taken ≡ script_length ran.lines
  pub serves : Serves g disk engine ran.state
