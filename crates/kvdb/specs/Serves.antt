-- Which states of the machine an engine and its device stand for.
use Rattle.std.specs.Prelude.{◌≡◌, ℕ, ◌+◌, true, false, List, [], ◌++◌}
use Rattle.media_disk.specs.declared.device.Device.{Ghosts}
use Rattle.media_disk.specs.Images.{MayLeave}
use Rattle.device_layout.specs.Layouts.{params_of, sizes_of}
use Rattle.hse_rows.specs.machine.Sizes.{Sizes}
use Rattle.hse_rows.specs.machine.ManifestRoom.{ManifestState}
use Rattle.hse_rows.specs.machine.Turn.{TakenTurn, Turn, home, taken, ran}
use Rattle.hse_rows.specs.machine.Core.{Core, Stored, number_of, free_slots}
use Rattle.hse_rows.specs.machine.Recorded.{due}
use Rattle.hse_rows.specs.machine.TakenRuns.{runs_as, runs_of}
use Rattle.hse_rows.specs.declared.row_set.RowSet as rows
use Rattle.kvset.specs.Reading.{Contents}
use Rattle.kvset.specs.Parts.{contents_rows}
use Rattle.recovery.specs.Image.{Loaded}
use Rattle.recovery.specs.Machine.{stored_of}
use Rattle.engine_state.specs.Serves as state
use Rattle.back.specs.Home.{AtRest}
use Rattle.back.specs.declared.back.Back.{Back}
use Rattle.kvdb.specs.declared.engine.Kvdb.{Kvdb}
use Rattle.kvdb.specs.declared.log_start.LogStart.{LogStart}
use Rattle.kvdb.specs.declared.side.TurnKind.{TurnKind}
use Rattle.kvdb.specs.declared.side.Side.{Side}
use Rattle.kvdb.specs.declared.side.Side.TheVariants as side
use Rattle.kvdb.specs.Found.{stored_at, StoresFrom}
use Rattle.kvdb.specs.Pending.{IsPending}
use Rattle.kvdb.specs.Sides.{kind_as}

-- ---- the device, in its three cases

-- Nothing is pending, the device stores this, and the device side has its places.
pub record RestsAt {D : Type 0} (g : Ghosts D) (back : Back D g) (stored : Stored) : Type 0 where
  pub loaded : Loaded
  pub rests : AtRest g back.disk back.layout back.log back.manifest loaded
  pub same : stored_of loaded ≡ stored

-- The device side has the place of a manifest that is this one, for these sizes.
pub record IsPlaced {D : Type 0} {g : Ghosts D} (back : Back D g) (sizes : Sizes) (manifest : ManifestState) : Type 0 where
  pub sizes_are : sizes_of (params_of back.manifest.layout) ≡ sizes
  pub sequence : back.manifest.sequence ≡ manifest.sequence
  pub used : back.manifest.tail.place + 1 ≡ manifest.used

-- Whatever a crash now leaves stores the life at a number from the safe one on.
abbrev pub IsUnsure : {D : Type 0} (g : Ghosts D) → D → Core → Type 0
IsUnsure g disk m =
    g.tells → (image : List ℕ) → MayLeave g disk image → StoresFrom m (number_of m) image

-- The device side is in. While no device call failed the device stores what is safe.
pub record IsHome {D : Type 0} (g : Ghosts D) (back : Back D g) (m : Core) : Type 0 where
  pub turn : m.turn ≡ home
  pub placed : m.is_broken ≡ false → IsPlaced back m.sizes m.manifest
  pub settled : m.is_broken ≡ false → g.tells → RestsAt g back (stored_at m m.safe)
  pub broken : m.is_broken ≡ true → IsUnsure g back.disk m

-- this turn
pub record IsTurn (what : TurnKind) (number : ℕ) (turn : TakenTurn) : Type 0 where
  pub kind : turn.kind ≡ kind_as what
  pub number_is : turn.number ≡ number

-- It is out with the turn of this kind and number: that was taken, or has run.
abbrev pub IsOut : TurnKind → ℕ → Turn → Type 0
IsOut what number home = ⊥
IsOut what number (taken turn) = IsTurn what number turn
IsOut what number (ran turn has_failed) = IsTurn what number turn

abbrev pub SideIs : {D : Type 0} (g : Ghosts D) → Side D g → Core → Type 0
SideIs g (side.In back) m = IsHome g back m
SideIs g (side.Out what number) m = IsOut what number m.turn

-- ---- the log's start

-- What a base says beside its stores is the machine's: the horizon and the first segment, and while no device call failed the
-- numbers that the manifest has taken, with that of the turn that is out.
pub record StartServes (start : LogStart) (m : Core) : Type 0 where
  pub horizon : start.horizon ≡ m.log.horizon
  pub first : start.first ≡ m.log.first_segment
  pub taken : m.is_broken ≡ false → runs_as start.taken.items ≡ runs_of (m.manifest.taken ++ due m.turn)

-- ---- the engine

-- the rows of a set that is open
abbrev pub of_sets : rows.Ghosts Contents
of_sets = record { rows = contents_rows }

-- It stands for the state in memory and for the device, the log has what waits, the manifest and the slots are as at the end of
-- the last turn, and no set and no job is there.
pub record Serves {D : Type 0} (g : Ghosts D) (engine : Kvdb D g) (m : Core) : Type 0 where
  pub state : state.Serves of_sets engine.state m
  pub pending : IsPending m
  pub start : StartServes engine.log_start m
  pub manifest : engine.sequence ≡ m.manifest.sequence
  pub free : engine.free ≡ free_slots m
  pub frozen : m.log.frozen ≡ []
  pub layout : m.layout ≡ []
  pub jobs : m.jobs ≡ []
  pub side : SideIs g engine.side m
