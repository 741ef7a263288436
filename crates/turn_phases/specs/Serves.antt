-- Which states of the machine an engine and the turn that is out of it stand for.
use Rattle.std.specs.Prelude.{◌≡◌}
use Rattle.media_disk.specs.declared.device.Device.{Ghosts}
use Rattle.hse_rows.specs.machine.Turn.{home}
use Rattle.hse_rows.specs.machine.Core.{Core}
use Rattle.engine_state.specs.Serves.{IsSound}
use Rattle.kvdb.specs.Serves.{Serves}
use Rattle.kvdb.specs.Turns.{TurnOf, RanOf}
use Rattle.turn_phases.specs.declared.held.Held.{Held}
use Rattle.turn_phases.specs.declared.held.Held.TheVariants as held
use Rattle.turn_phases.specs.declared.phases.TurnPhases.{TurnPhases}

-- The turn that is held is the machine's, in its phase.
abbrev pub HeldIs : {D : Type 0} (g : Ghosts D) → Held D g → Core → Type 0
HeldIs g held.Nothing m = m.turn ≡ home
HeldIs g (held.Taken turn) m = TurnOf g turn m
HeldIs g (held.Run ran) m = RanOf g ran m

-- The engine serves the state, which is sound, and the turn that is held stands for it.
pub record PhasesServe {D : Type 0} (g : Ghosts D) (phases : TurnPhases D g) (m : Core) : Type 0 where
  pub engine : Serves g phases.db m
  pub sound : IsSound m
  pub turn : HeldIs g phases.held m
