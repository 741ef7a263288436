-- The last line of a run that ends early, and what is written where writing fails.
use Rattle.std.specs.Prelude.{◌≡◌, ◌⊎◌, ℕ, List, [], ◌∷◌, ◌++◌, Option, codes}
use Rattle.std.specs.Io.KnownBytes.{Appends}
use Rattle.hse_io.specs.Faults.{Rose}
use Rattle.hse_io.specs.declared.outcome.Status.{Status}
use Rattle.hse_io.specs.declared.outcome.Status.TheVariants as status

-- What is written of a status at last. A run to the end of its script has written its own line, where writing
-- failed nothing more is written, and the other statuses are none of a script's or say more than their name.
abbrev pub status_text : Status → List ℕ
status_text status.Usage = codes "fault usage" ++ 10 ∷ []
status_text status.ReadFault = codes "fault read" ++ 10 ∷ []
status_text status.DeviceFault = codes "fault device" ++ 10 ∷ []
status_text status.NoMemory = codes "fault memory" ++ 10 ∷ []
status_text status.LineTooLong = codes "fault line-too-long" ++ 10 ∷ []
status_text status.ScriptTooLong = codes "fault script-too-long" ++ 10 ∷ []
status_text status.Done = []
status_text status.WriteFault = []
status_text status.NotFormed = []
status_text status.NotEmpty = []
status_text status.BadParams = []
status_text status.Refused = []

-- a front of these bytes was appended
pub record AppendsFront (before after : Option (List ℕ)) (bytes : List ℕ) : Type 0 where
  pub front : List ℕ
  pub rest : List ℕ
  pub parts : bytes ≡ front ++ rest
  pub appended : Appends before after front

-- all of these bytes were appended, or a front of them, and then the count of faults rose
abbrev pub AppendsOrFails : ℕ → ℕ → Option (List ℕ) → Option (List ℕ) → List ℕ → Type 0
AppendsOrFails faults now before after bytes = Appends before after bytes ⊎ (Rose faults now × AppendsFront before after bytes)
