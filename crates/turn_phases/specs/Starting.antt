-- An engine is opened, with no turn out.
use Rattle.std.specs.Prelude.{List, [], ◌∷◌, ℕ, Result, Ok, Err}
use Rattle.media_disk.specs.declared.device.Device.{Ghosts}
use Rattle.hse_rows.specs.machine.Core.{life, formatted}
use Rattle.hse_rows.specs.machine.Sizes.{default_sizes}
use Rattle.recovery.specs.Answers.{IsRecovery}
use Rattle.recovery.specs.Image.{Loaded, IsLoaded}
use Rattle.recovery.specs.Machine.{stored_of}
use Rattle.recovery.specs.declared.fault.OpenFault.{OpenFault}
use Rattle.kvdb.specs.Opening.{IsOfDevice}
use Rattle.kvdb.specs.declared.engine.Kvdb.{Kvdb}
use Rattle.turn_phases.specs.declared.phases.TurnPhases.{TurnPhases}
use Rattle.turn_phases.specs.Serves.{PhasesServe}

-- the answer of the engine's own opening
abbrev pub engine_of : {D : Type 0} {g : Ghosts D} → Result (TurnPhases D g) (D × OpenFault) → Result (Kvdb D g) (D × OpenFault)
engine_of (Ok phases) = Ok phases.db
engine_of (Err left) = Err left

-- The image is formed, and a life begins at what it stores.
pub record Starts {D : Type 0} (g : Ghosts D) (image : List ℕ) (phases : TurnPhases D g) : Type 0 where
  pub loaded : Loaded
  pub is : IsLoaded image loaded
  pub serves : PhasesServe g phases (life (stored_of loaded))

-- A life, or why the image is refused, as a recovery answers it. An empty device is a new one then.
abbrev pub Opens : {D : Type 0} (g : Ghosts D) → List ℕ → Result (TurnPhases D g) (D × OpenFault) → Type 0
Opens g [] (Ok phases) = PhasesServe g phases (life (formatted default_sizes))
Opens g [] (Err (disk, fault)) = IsOfDevice fault
Opens g (byte ∷ bytes) (Ok phases) = Starts g (byte ∷ bytes) phases
Opens g (byte ∷ bytes) (Err (disk, fault)) = IsRecovery (byte ∷ bytes) (Err fault)
