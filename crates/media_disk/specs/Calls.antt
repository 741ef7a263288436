-- What the calls of a device keep.
use Rattle.std.specs.Prelude.{◌≡◌, ℕ, ◌-◌, ◌^◌, ◌≤◌, List, Result, IsErr}
use Rattle.hse_io.specs.Faults.{HasCause, next_count}
use Rattle.media_disk.specs.Leaves.{Elapses}
use Rattle.media_disk.specs.declared.device.Device.{Ghosts}

-- One call: it counts, it fails at the clock's last value, its failure raises the count of faults, which stays over
-- a success, and the device is the same one.
pub record Called {D T E : Type 0} (g : Ghosts D) (old new : D) (result : Result T E) : Type 0 where
  pub clock : g.clock new ≡ next_count (g.clock old)
  pub forward : g.clock old ≤ g.clock new
  pub spent : g.clock old ≡ 2 ^ 64 - 1 → IsErr result
  pub cause : HasCause (g.faults old) (g.faults new) result
  pub same : g.name new ≡ g.name old
  pub crash : g.tells → Elapses g old new

-- Any number of calls: neither the clock nor the count of faults falls, and the device is the same one.
pub record CallsMade {D : Type 0} (g : Ghosts D) (old new : D) : Type 0 where
  pub forward : g.clock old ≤ g.clock new
  pub later : g.faults old ≤ g.faults new
  pub same : g.name new ≡ g.name old

-- Any number of calls that only read: the size, what a read gives and the pending ranges stay, and a crash leaves
-- what it might have left before.
pub record OnlyReads {D : Type 0} (g : Ghosts D) (old new : D) : Type 0 where
  pub extent : g.extent new ≡ g.extent old
  pub seen : g.tells → g.seen new ≡ g.seen old
  pub pending : g.tells → g.pending new ≡ g.pending old
  pub images : g.tells → (clock : ℕ) (image : List ℕ) → clock ≤ g.clock old → g.could new clock image → g.could old clock image
