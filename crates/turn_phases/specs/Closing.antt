-- An engine is closed, whatever turn is out of it.
use Rattle.std.specs.Prelude.{◌≡◌, ◌⊎◌, ℕ, true, false, List, Result, Ok, Err}
use Rattle.media_disk.specs.declared.device.Device.{Ghosts}
use Rattle.hse_rows.specs.machine.Turn.{Turn, home, taken, ran, Calls}
use Rattle.hse_rows.specs.machine.Calls.{write_turn, end_turn}
use Rattle.hse_rows.specs.machine.Core.{Core, number_of}
use Rattle.hse_rows.specs.machine.CoreDone.{done, refused_to, failing}
use Rattle.engine_state.specs.Serves.{handed}
use Rattle.kvdb.specs.Found.{StoresFrom}
use Rattle.kvdb.specs.Leaving.{Closes}
use Rattle.kvdb.specs.Serves.{IsUnsure}
use Rattle.kvdb.specs.declared.leaving.CloseFault.{CloseFault}
use Rattle.kvdb.specs.declared.leaving.CloseFault.TheVariants as fault

-- the state once the turn that is out was written, if it was not, and ended
abbrev pub finished_from : Core → Turn → Core
finished_from m home = m
finished_from m (taken turn) = done (done m write_turn) end_turn
finished_from m (ran turn true) = refused_to m end_turn
finished_from m (ran turn false) = done m end_turn

abbrev pub finished : Core → Core
finished m = finished_from m m.turn

-- A device call of the turn that is out failed, and a crash leaves the life at a number from the safe one on.
abbrev pub FailsWithin : {D : Type 0} (g : Ghosts D) → Core → D → Type 0
FailsWithin g m disk = Calls m.turn × (m.is_broken ≡ false) × IsUnsure g disk (failing m write_turn)

-- The turn that is out ended, and then all is made safe, as the engine's own closing says; or the turn failed.
abbrev pub ClosesWith : {D : Type 0} (g : Ghosts D) → Core → Result ℕ CloseFault → D → Type 0
ClosesWith g m (Ok number) disk = Closes g (finished m) (Ok number) disk
ClosesWith g m (Err fault.Broken) disk = Closes g (finished m) (Err fault.Broken) disk
ClosesWith g m (Err fault.NoMemory) disk = Closes g (finished m) (Err fault.NoMemory) disk
ClosesWith g m (Err fault.Device) disk = FailsWithin g m disk ⊎ Closes g (finished m) (Err fault.Device) disk

-- The image stores the life at a number that the turn may leave, or one that the sync behind it may.
abbrev pub StoresWithin : Core → List ℕ → Type 0
StoresWithin m image = StoresFrom m (handed m) image ⊎ StoresFrom (finished m) (number_of (finished m)) image
