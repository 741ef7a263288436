-- How an engine is closed.
use Rattle.std.specs.Prelude.{◌≡◌, ℕ, true, false, [], Result, Ok, Err}
use Rattle.hse_io.specs.Faults.{Rose}
use Rattle.media_disk.specs.declared.device.Device.{Ghosts}
use Rattle.hse_rows.specs.machine.Core.{Core, number_of}
use Rattle.kvdb.specs.Found.{IsStored, stored_at}
use Rattle.kvdb.specs.Serves.{IsUnsure}
use Rattle.kvdb.specs.declared.leaving.CloseFault.{CloseFault}
use Rattle.kvdb.specs.declared.leaving.CloseFault.TheVariants as fault

-- Nothing is pending, and the device stores the whole life.
pub record StoresAll {D : Type 0} (g : Ghosts D) (disk : D) (m : Core) : Type 0 where
  pub stored : IsStored (g.seen disk) (stored_at m (number_of m))
  pub durable : g.pending disk ≡ []

-- The last number, where all is safe; or the engine was broken, or a device call failed or memory was wanting, and a crash leaves the
-- life at a number from the safe one on.
abbrev pub Closes : {D : Type 0} (g : Ghosts D) → Core → Result ℕ CloseFault → D → Type 0
Closes g m (Ok number) disk = (m.is_broken ≡ false) × (number ≡ number_of m) × (g.tells → StoresAll g disk m)
Closes g m (Err fault.Broken) disk = (m.is_broken ≡ true) × IsUnsure g disk m
Closes g m (Err fault.Device) disk = (m.is_broken ≡ false) × IsUnsure g disk m
Closes g m (Err fault.NoMemory) disk = (m.is_broken ≡ false) × IsUnsure g disk m

-- where the engine was broken, or memory was wanting, it is the very disk
abbrev pub LeavesDisk : {D : Type 0} → D → D → Result ℕ CloseFault → Type 0
LeavesDisk old new (Ok number) = Unit {0}
LeavesDisk old new (Err fault.Broken) = new ≡ old
LeavesDisk old new (Err fault.Device) = Unit {0}
LeavesDisk old new (Err fault.NoMemory) = new ≡ old

-- a device call failed exactly where the answer says so
abbrev pub CloseReports : ℕ → ℕ → Result ℕ CloseFault → Type 0
CloseReports old new (Ok number) = new ≡ old
CloseReports old new (Err fault.Broken) = new ≡ old
CloseReports old new (Err fault.Device) = Rose old new
CloseReports old new (Err fault.NoMemory) = new ≡ old
