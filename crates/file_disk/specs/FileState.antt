-- What a disk over a file keeps.
use Rattle.std.specs.Prelude.{◌≡◌, ℕ, ◌-◌, ◌^◌, Bool, true, false, ℤ, pos, ◌<ℤ◌, List, Option, None, Some, Result, Ok, Err, IsOk, IsErr, IsSome}
use Rattle.hse_io.specs.Faults.{next_count}

-- the path, the descriptor once the file is open, whether its folder was synced, the size that was answered or set last,
-- the faults and the calls so far
pub record FileState : Type 0 where
  pub path : List ℕ
  pub descriptor : Option ℤ
  pub is_folder_synced : Bool
  pub extent : ℕ
  pub faults : ℕ
  pub clock : ℕ

-- the file is open, by a descriptor above those of the standard streams
abbrev pub IsOpen : Option ℤ → Type 0
IsOpen None = ⊥
IsOpen (Some descriptor) = pos 2 <ℤ descriptor

-- the file of this path before the first call
abbrev pub untouched : List ℕ → FileState
untouched path = record { path = path; descriptor = None; is_folder_synced = false; extent = 0; faults = 0; clock = 0 }

-- the faults after an answer of the system
abbrev pub faults_after : {T E : Type 0} → ℕ → Result T E → ℕ
faults_after faults (Ok _) = faults
faults_after faults (Err _) = next_count faults

-- A call keeps the path. It succeeds only over an open file, which stays the one that is open; at the clock's last
-- value it opens none. A failure raises the faults by one, and does not count the folder as synced.
pub record KeepsFile {T E : Type 0} (old new : FileState) (result : Result T E) : Type 0 where
  pub same_path : new.path ≡ old.path
  pub opened : IsOk result → IsOpen new.descriptor
  pub stays : IsSome old.descriptor → new.descriptor ≡ old.descriptor
  pub spent : old.clock ≡ 2 ^ 64 - 1 → new.descriptor ≡ old.descriptor
  pub counted : IsErr result → new.faults ≡ next_count old.faults
  pub folder : IsErr result → new.is_folder_synced ≡ old.is_folder_synced
