-- What a log says, as the code has it.
use Rattle.std.specs.Prelude.{◌≡◌, ℕ, ◌+◌, ◌≤◌, List, Result, Ok, Err}
use Rattle.gate_log.specs.Places.{tail_of}
use Rattle.hse_shell.specs.Base.{Base}
use Rattle.hse_shell.specs.Machine.{room}
use Rattle.hse_shell.specs.Stored.{Stores, IsRefusedAt}
use Rattle.hse_shell.specs.declared.open.OpenFault.{OpenFault}
use Rattle.hse_shell.specs.declared.open.OpenFault.TheVariants.{NotFormed, Device, NoMemory}
use Rattle.hse_shell.specs.declared.replay.Replayed.{Replayed}

-- what was replayed
abbrev pub base_from : Replayed → Base
base_from r = record { number = r.number; contents = r.rows; charges = r.charges }

-- the image stores it, and its log ends at this gate
pub record IsReplayed (image : List ℕ) (r : Replayed) : Type 0 where
  pub stores : Stores image (base_from r)
  pub tail : r.tail.place ≡ tail_of stores.loads.payloads

-- what the image stores, or where it is refused
abbrev pub IsOpening : List ℕ → Result Replayed OpenFault → Type 0
IsOpening image (Ok r) = IsReplayed image r
IsOpening image (Err (NotFormed place)) = IsRefusedAt image place
IsOpening image (Err Device) = Unit {0}
IsOpening image (Err NoMemory) = Unit {0}

-- the bounds within which an engine goes on from there
pub record IsInBounds (r : Replayed) : Type 0 where
  pub within : r.charges ≤ room
  pub numbered : r.number ≤ 1 + r.charges
  pub placed : r.tail.place ≤ 9 + r.charges
