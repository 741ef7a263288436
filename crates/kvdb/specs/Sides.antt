-- Where the device side is.
use Rattle.std.specs.Prelude.{ℕ, Option, Some, None}
use Rattle.media_disk.specs.declared.device.Device.{Ghosts}
use Rattle.hse_rows.specs.machine.Turn as machine
use Rattle.kvdb.specs.declared.side.TurnKind.{TurnKind}
use Rattle.kvdb.specs.declared.side.TurnKind.TheVariants as kind
use Rattle.kvdb.specs.declared.side.Side.{Side}
use Rattle.kvdb.specs.declared.side.Side.TheVariants as side

-- a turn's kind, as the machine has it
abbrev pub kind_as : TurnKind → machine.TurnKind
kind_as kind.Sync = machine.syncing
kind_as kind.Freeze = machine.freezing
kind_as kind.Install = machine.installing
kind_as kind.Create = machine.creating
kind_as kind.Drop = machine.dropping

-- the device that is in
abbrev pub device_in : {D : Type 0} {g : Ghosts D} → Side D g → Option D
device_in (side.In back) = Some back.disk
device_in (side.Out what number) = None

-- the turn that is out
abbrev pub out_of : {D : Type 0} {g : Ghosts D} → Side D g → Option (TurnKind × ℕ)
out_of (side.In back) = None
out_of (side.Out what number) = Some (what, number)

-- the clock of the device that is in
abbrev pub clock_in : {D : Type 0} (g : Ghosts D) → Side D g → Option ℕ
clock_in g (side.In back) = Some (g.clock back.disk)
clock_in g (side.Out what number) = None
