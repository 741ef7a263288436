-- The turn: who may write to the device, and what its end makes of the state.
use Rattle.std.specs.Prelude.{◌≡◌, ℕ, Bool, true, List}
use Rattle.hse_rows.specs.declared.store.Mode.{Mode}
use Rattle.hse_rows.specs.rows.Layout.{NewSet}
use Rattle.hse_rows.specs.rows.Job.{Work}
use Rattle.hse_rows.specs.machine.ManifestRoom.{ManifestState}

pub data TurnKind : Type 0 where
  syncing : TurnKind
  freezing : TurnKind
  installing : TurnKind
  creating : TurnKind
  dropping : TurnKind

-- what a turn is asked for, but an install
pub data TurnWish : Type 0 where
  sync : TurnWish
  freeze : TurnWish
  -- name, mode and prefix length
  create : List ℕ → Mode → ℕ → TurnWish
  drop : List ℕ → TurnWish

-- What the end of a turn changes beside the device side.
pub data Plan : Type 0 where
  -- all up to the turn's number is safe
  settles : Plan
  -- and the manifest has one entry more
  enters : ManifestState → Plan
  -- and the sets of the store of this id leave
  removes : ℕ → ManifestState → Plan
  -- the sets of the job of this id take their places
  installs : ℕ → Work → List NewSet → ManifestState → Plan

pub record TakenTurn : Type 0 where
  pub kind : TurnKind
  -- All up to it is safe once the turn ended: the last number, and of an install the one that is safe already.
  pub number : ℕ
  pub plan : Plan
  -- it calls the device: a sync does where commits wait for it
  pub calls : Bool

pub data Turn : Type 0 where
  -- the device side is in the state
  home : Turn
  taken : TakenTurn → Turn
  -- and whether a device call failed
  ran : TakenTurn → Bool → Turn

pub data TurnPhase : Type 0 where
  is_home : TurnPhase
  is_taken : TurnPhase
  is_run : TurnPhase

-- a turn that was taken and calls the device
abbrev pub Calls : Turn → Type 0
Calls home = ⊥
Calls (taken turn) = turn.calls ≡ true
Calls (ran turn has_failed) = ⊥

-- the turn after its device calls
abbrev pub written : Turn → Bool → Turn
written home has_failed = home
written (taken turn) has_failed = ran turn has_failed
written (ran turn failed_before) has_failed = ran turn failed_before
