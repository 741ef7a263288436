-- The turn that is held.
use Rattle.std.specs.Prelude.{ℕ, Option, Some, None}
use Rattle.media_disk.specs.declared.device.Device.{Ghosts}
use Rattle.kvdb.specs.declared.side.TurnKind.{TurnKind}
use Rattle.turn_phases.specs.declared.held.Held.{Held}
use Rattle.turn_phases.specs.declared.held.Held.TheVariants as held

-- its kind and number
abbrev pub turn_of : {D : Type 0} {g : Ghosts D} → Held D g → Option (TurnKind × ℕ)
turn_of held.Nothing = None
turn_of (held.Taken turn) = Some (turn.kind, turn.number)
turn_of (held.Run ran) = Some (ran.kind, ran.number)
