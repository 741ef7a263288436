-- Which states of the machine an engine stands for. It keeps neither the history nor the transactions' writes, so it
-- stands for many.
use Rattle.std.specs.Prelude.{◌≡◌, ℕ, ◌+◌, ◌≤◌, false, List, [], ◌∷◌, length, map, Some}
use Rattle.std.specs.List.{AllByRecursion}
use Rattle.hse_fields.specs.LogText as log
use Rattle.hse_rows.specs.declared.row_set.RowSet.{Ghosts}
use Rattle.hse_rows.specs.states.History.{events_since}
use Rattle.hse_rows.specs.transactions.Transaction.{Transaction}
use Rattle.hse_rows.specs.transactions.Timeline.{Timeline, transaction_of, number_of}
use Rattle.hse_rows.specs.machine.Log.{Numbered, charge_of_active}
use Rattle.hse_rows.specs.machine.Sizes.{Sizes}
use Rattle.hse_rows.specs.machine.Turn.{Turn, home, taken, ran}
use Rattle.hse_rows.specs.machine.Core.{Core, Stored, now, live}
use Rattle.hse_rows.specs.machine.Recorded.{commits_in}
use Rattle.hse_rows.specs.machine.Limits.{IsWithinLimits}
use Rattle.hse_rows.specs.laws.CoreLaws.{Stands}
use Rattle.key_locks.specs.declared.locks.KeyLocks.{KeyLocks}
use Rattle.key_locks.specs.Standing.{StandFor}
use Rattle.ingest_tree.specs.declared.store_row.StoreRow.{StoreRow}
use Rattle.view.specs.Views.{ViewState}
use Rattle.view.specs.Means.{state_of}
use Rattle.transactions.specs.Txns.{TxnKept}
use Rattle.transactions.specs.Stands.{StandsFor}
use Rattle.wal.specs.Logged.{entry_with}
use Rattle.wal.specs.Waits.{waiting_of}
use Rattle.engine_state.specs.declared.live.LiveTxn.{LiveTxn}
use Rattle.engine_state.specs.declared.sizes.EngineSizes.{EngineSizes}
use Rattle.engine_state.specs.declared.state.EngineState.{EngineState}

-- ---- the machine

-- A state that the machine may be in: it is within the limits, and its timeline stands. Every step keeps that.
pub record IsSound (m : Core) : Type 0 where
  pub limits : IsWithinLimits m
  pub stands : Stands m.timeline

-- All commits up to this number were handed to the device: those of the turn that is out, or those that are safe.
abbrev pub handed_by : ℕ → Turn → ℕ
handed_by safe home = safe
handed_by safe (taken turn) = turn.number
handed_by safe (ran turn has_failed) = turn.number

abbrev pub handed : Core → ℕ
handed m = handed_by m.safe m.turn

-- the commits above a number
abbrev pub commits_above : Timeline → ℕ → List Numbered
commits_above m number = commits_in (number + 1) (events_since m.base m.history number)

-- as the log spells them
abbrev pub entries_of : List Numbered → List log.Entry
entries_of commits = map (λ (commit : Numbered). entry_with commit.number commit.writes) commits

-- what is kept of a live transaction
abbrev pub live_of : Transaction → LiveTxn
live_of transaction = record { order = transaction.begun; snapshot = transaction.snapshot }

-- ---- the parts

-- no row of a layer is of a store whose id is above the number
abbrev pub AreOfStores : ℕ → List (List StoreRow) → Type 0
AreOfStores number layers =
    AllByRecursion (λ (layer : List StoreRow). AllByRecursion (λ (row : StoreRow). row.store.0 ≤ number) layer) layers

-- From one begin to the next snapshots do not fall, from this number on and up to that.
abbrev pub AreBetween : ℕ → ℕ → List LiveTxn → Type 0
AreBetween low high [] = low ≤ high
AreBetween low high (txn ∷ later) = (low ≤ txn.snapshot) × AreBetween txn.snapshot high later

-- The locks stand for the live transactions, and for all commits since the snapshot of each of them.
pub record LocksServe (locks : KeyLocks) (txns : List LiveTxn) (m : Timeline) : Type 0 where
  pub above : ℕ
  pub stand : StandFor locks m above
  pub reach : AreBetween above (number_of m) txns

pub record SizesServe (kept : EngineSizes) (sizes : Sizes) : Type 0 where
  pub slot : kept.slot_size ≡ sizes.slot_size
  pub segment : kept.segment_size ≡ sizes.segment_size
  pub stores : kept.most_stores ≡ sizes.most_stores

module _ {R : Type 0} (g : Ghosts R) where
  -- The view is the present state.
  pub record ViewServes (view : ViewState R) (m : Core) : Type 0 where
    pub state : state_of g.rows view ≡ now m
    pub stores : AreOfStores view.number view.layers

  -- where the commits up to this number were handed to the device
  pub record ServesAbove (state : EngineState R g) (m : Core) (handed_over : ℕ) : Type 0 where
    pub view : ViewServes state.view m
    pub locks : LocksServe state.locks state.live.items m.timeline
    pub live : state.live.items ≡ map live_of (live m)
    pub begins : state.begins ≡ length m.timeline.begun
    pub charge : state.charge ≡ charge_of_active m.log
    -- a broken engine gives no batch any more
    pub waits : m.is_broken ≡ false → state.waiting ≡ waiting_of (entries_of (commits_above m.timeline handed_over))
    pub safe : state.safe ≡ m.safe
    pub is_broken : state.is_broken ≡ m.is_broken
    pub cursors : state.cursors ≡ m.cursors
    pub sizes : SizesServe state.sizes m.sizes

  abbrev pub Serves : EngineState R g → Core → Type 0
  Serves state m = ServesAbove state m (handed m)

  -- The view is what a device stored when it was opened, and the charge that of its active log.
  pub record IsOpened (view : ViewState R) (charge : ℕ) (sizes : EngineSizes) (stored : Stored) : Type 0 where
    pub state : state_of g.rows view ≡ stored.base
    pub stores : AreOfStores view.number view.layers
    pub charged : charge ≡ charge_of_active stored.log
    pub sized : SizesServe sizes stored.sizes

  -- A transaction is that of its begin order.
  pub record IsTxnOf (txn : TxnKept R) (m : Timeline) (transaction : Transaction) : Type 0 where
    pub at : transaction_of m txn.id ≡ Some transaction
    pub stands : StandsFor g.rows m.base m.history txn transaction
