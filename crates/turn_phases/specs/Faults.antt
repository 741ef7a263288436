-- Which phase and which refusal of the machine an answer is.
use Rattle.hse_rows.specs.machine.Turn as machine
use Rattle.turn_phases.specs.declared.faults.TurnPhase.{TurnPhase}
use Rattle.turn_phases.specs.declared.faults.TurnPhase.TheVariants as phase

abbrev pub phase_as : TurnPhase → machine.TurnPhase
phase_as phase.Home = machine.is_home
phase_as phase.Taken = machine.is_taken
phase_as phase.Run = machine.is_run
