-- What keeps within the limits of a device and of the engine.
use Rattle.std.specs.Prelude.{◌≡◌, ◌⊎◌, ℕ, ◌+◌, ◌<◌, ◌≤◌, List, length}
use Rattle.std.specs.List.{filter, AllByRecursion}
use Rattle.hse_rows.specs.states.State.{State}
use Rattle.hse_rows.specs.states.History.{Event, folded, last_number}
use Rattle.hse_rows.specs.transactions.Transaction.{Transaction, is_active}
use Rattle.hse_rows.specs.machine.Sizes.{Sizes}
use Rattle.hse_rows.specs.machine.Log.{Frozen, LogState, IsWithinLayers, charge_of_commits, charge_of_active, room_of}
use Rattle.hse_rows.specs.machine.ManifestRoom.{ManifestState, greatest_sequence}
use Rattle.hse_rows.specs.rows.Job.{Job, AreNumbered, ClaimApart}
use Rattle.hse_rows.specs.machine.Turn.{TurnKind, syncing, freezing, creating, dropping, installing, Plan, settles, enters, removes, installs, Turn, home, taken, ran}
use Rattle.hse_rows.specs.machine.Core.{Core, number_of, most_transactions, most_jobs, most_cursors, greatest_number}

pub record HistoryFits (sizes : Sizes) (base : State) (events : List Event) : Type 0 where
  pub numbers : last_number base events ≤ greatest_number
  pub stores : length (folded base events).stores ≤ sizes.most_stores

-- a layer that was frozen
pub record LayerFits (sizes : Sizes) (layer : Frozen) : Type 0 where
  pub commits : 0 < length layer.commits
  pub room : charge_of_commits layer.commits ≤ room_of sizes.segment_size

pub record LogFits (sizes : Sizes) (log : LogState) : Type 0 where
  -- the commits of the active layer have room in their segment
  pub room : charge_of_active log ≤ room_of sizes.segment_size
  pub layers : IsWithinLayers log
  pub frozen : AllByRecursion (LayerFits sizes) log.frozen
  -- the active segment's sequence
  pub segments : log.first_segment + length log.frozen ≤ greatest_sequence

pub record ManifestFits (sizes : Sizes) (manifest : ManifestState) : Type 0 where
  -- the batches have room in their half
  pub used : manifest.used ≤ sizes.half_size
  pub sequence : manifest.sequence ≤ greatest_sequence

pub record TransactionsFit (begun : List Transaction) : Type 0 where
  -- the live ones
  pub live : length (filter (λ transaction. is_active transaction.state) begun) ≤ most_transactions
  pub begins : length begun ≤ greatest_number

pub record JobsFit (jobs : List Job) (picked : ℕ) : Type 0 where
  pub live : length jobs ≤ most_jobs
  pub ids : AreNumbered jobs picked
  pub claims : ClaimApart jobs

-- A turn's kind and number, and the manifest after it. An install's number is what is safe.
abbrev pub PlanFits : Sizes → ℕ → TurnKind → ℕ → Plan → Type 0
PlanFits sizes safe kind number settles = (kind ≡ syncing) ⊎ (kind ≡ freezing)
PlanFits sizes safe kind number (enters manifest) = (kind ≡ creating) × ManifestFits sizes manifest
PlanFits sizes safe kind number (removes id manifest) = (kind ≡ dropping) × ManifestFits sizes manifest
PlanFits sizes safe kind number (installs id work new manifest) =
    (kind ≡ installing) × (number ≡ safe) × ManifestFits sizes manifest

-- A turn's number is between what is safe and the last number.
abbrev pub TurnFits : Sizes → ℕ → ℕ → Turn → Type 0
TurnFits sizes safe number home = Unit {0}
TurnFits sizes safe number (taken turn) =
    (safe ≤ turn.number) × (turn.number ≤ number) × PlanFits sizes safe turn.kind turn.number turn.plan
TurnFits sizes safe number (ran turn has_failed) =
    (safe ≤ turn.number) × (turn.number ≤ number) × PlanFits sizes safe turn.kind turn.number turn.plan

pub record IsWithinLimits (m : Core) : Type 0 where
  pub history : HistoryFits m.sizes m.timeline.base m.timeline.history
  pub log : LogFits m.sizes m.log
  pub manifest : ManifestFits m.sizes m.manifest
  pub slots : m.used_slots ≤ m.sizes.slots
  -- what is safe is between the base and the last number
  pub since_base : m.timeline.base.number ≤ m.safe
  pub until_now : m.safe ≤ number_of m
  pub transactions : TransactionsFit m.timeline.begun
  pub jobs : JobsFit m.jobs m.picked
  pub cursors : m.cursors ≤ most_cursors
  pub turn : TurnFits m.sizes m.safe (number_of m) m.turn
