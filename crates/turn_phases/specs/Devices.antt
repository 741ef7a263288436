-- Where the device is: in the engine, or with the turn that is out.
use Rattle.std.specs.Prelude.{◌≡◌, ℕ, Option, Some, None}
use Rattle.std.proofs.Common.{subst}
use Rattle.media_disk.specs.declared.device.Device.{Ghosts}
use Rattle.kvdb.specs.declared.side.Side.{Side}
use Rattle.kvdb.specs.declared.side.Side.TheVariants as side
use Rattle.kvdb.specs.declared.side.TurnKind.{TurnKind}
use Rattle.kvdb.specs.Sides.{out_of}
use Rattle.turn_phases.specs.declared.held.Held.{Held}
use Rattle.turn_phases.specs.declared.held.Held.TheVariants as held
use Rattle.turn_phases.specs.declared.phases.TurnPhases.{TurnPhases}
use Rattle.turn_phases.specs.HeldTurns.{turn_of}

-- there is a turn
abbrev pub IsThere : Option (TurnKind × ℕ) → Type 0
IsThere None = ⊥
IsThere (Some turn) = Unit {0}

-- the device of these two, which speak of one turn
abbrev pub device_at : {D : Type 0} {g : Ghosts D} (s : Side D g) (h : Held D g) → out_of s ≡ turn_of h → D
device_at (side.In back) h paired = back.disk
device_at (side.Out what number) held.Nothing paired = absurd (subst IsThere paired tt)
device_at (side.Out what number) (held.Taken turn) paired = turn.back.disk
device_at (side.Out what number) (held.Run ran) paired = ran.back.disk

abbrev pub device_of : {D : Type 0} {g : Ghosts D} → TurnPhases D g → D
device_of phases = device_at phases.db.side phases.held phases.paired
