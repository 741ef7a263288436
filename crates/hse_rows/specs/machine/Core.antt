-- The core of the snapshot machine: its state, and what is read off it.
use Rattle.std.specs.Prelude.{ℕ, ◌+◌, ◌-◌, ◌^◌, ◌==◌, not, Bool, false, List, [], ◌∷◌, ◌++◌, sum_by, Option, Some, None}
use Rattle.std.specs.List.{filter}
use Rattle.hse_rows.specs.declared.store.Mode.{Mode}
use Rattle.hse_rows.specs.declared.change.Change.{Change}
use Rattle.hse_rows.specs.declared.write.Write.{Write}
use Rattle.hse_rows.specs.writes.Change.{write_of}
use Rattle.hse_rows.specs.writes.Lengths.{longest_value_in}
use Rattle.hse_rows.specs.states.State.{Store, State}
use Rattle.hse_rows.specs.states.History.{new_store, without}
use Rattle.hse_rows.specs.transactions.Transaction.{Transaction, is_active}
use Rattle.hse_rows.specs.transactions.Moves.{Move}
use Rattle.hse_rows.specs.transactions.Timeline.{Timeline, opened, moved}
use Rattle.hse_rows.specs.transactions.Timeline as timeline
use Rattle.hse_rows.specs.machine.Log.{Numbered, Frozen, LogState, new_log, room_of, room_left}
use Rattle.hse_rows.specs.rows.Layout.{Node, Layout}
use Rattle.hse_rows.specs.machine.Sizes.{Sizes}
use Rattle.hse_rows.specs.machine.ManifestRoom.{ManifestState, batch_bytes, head_bytes, base_bytes}
use Rattle.hse_rows.specs.rows.Job.{Job, blocks_of}
use Rattle.hse_rows.specs.machine.Turn.{Turn, home}

pub record Core : Type 0 where
  pub sizes : Sizes
  -- what was loaded, and the events and transactions since
  pub timeline : Timeline
  pub log : LogState
  pub manifest : ManifestState
  pub layout : Layout
  pub used_slots : ℕ
  -- the number of the last finished sync, freeze, creation or drop, at first that of the base
  pub safe : ℕ
  -- a device call failed since the last opening
  pub is_broken : Bool
  pub turn : Turn
  -- the live ones in the order picked, and how many were picked since the opening
  pub jobs : List Job
  pub picked : ℕ
  -- how many cursors are open
  pub cursors : ℕ

-- ---- openings

-- what a device stores
pub record Stored : Type 0 where
  pub sizes : Sizes
  pub base : State
  pub log : LogState
  pub manifest : ManifestState
  pub layout : Layout

-- the blocks that sets name
abbrev pub blocks_in : Layout → ℕ
blocks_in layout = sum_by (λ (node : Node). sum_by blocks_of node.sets) layout

-- A life begins at what the device stores, with no event, transaction, job or cursor.
abbrev pub life : Stored → Core
life stored = record {
  sizes = stored.sizes;
  timeline = opened stored.base;
  log = stored.log;
  manifest = stored.manifest;
  layout = stored.layout;
  used_slots = blocks_in stored.layout;
  safe = stored.base.number;
  is_broken = false;
  turn = home;
  jobs = [];
  picked = 0;
  cursors = 0;
}

-- the first state of a half: nothing taken, and no store
abbrev pub new_manifest : ManifestState
new_manifest = record { sequence = 1; used = head_bytes + batch_bytes (base_bytes [] [] []); taken = [] }

-- a device that was just formatted
abbrev pub formatted : Sizes → Stored
formatted sizes = record {
  sizes = sizes;
  base = record { number = 0; stores = [] };
  log = new_log;
  manifest = new_manifest;
  layout = [];
}

-- ---- what the core holds

-- the state after the whole history, and its number
abbrev pub now : Core → State
now m = timeline.now m.timeline

abbrev pub number_of : Core → ℕ
number_of m = timeline.number_of m.timeline

-- the live transactions
abbrev pub live : Core → List Transaction
live m = filter (λ transaction. is_active transaction.state) m.timeline.begun

-- what a segment has room for, and what the active one has left
abbrev pub whole_room : Core → ℕ
whole_room m = room_of m.sizes.segment_size

abbrev pub left_room : Core → ℕ
left_room m = room_left m.sizes.segment_size m.log

abbrev pub free_slots : Core → ℕ
free_slots m = m.sizes.slots - m.used_slots

-- the layer that was frozen first
abbrev pub oldest : List Frozen → Option Frozen
oldest [] = None
oldest (layer ∷ []) = Some layer
oldest (layer ∷ next ∷ layers) = oldest (next ∷ layers)

-- its commits
abbrev pub oldest_commits : Option Frozen → List Numbered
oldest_commits None = []
oldest_commits (Some layer) = layer.commits

-- ---- limits

-- of a value
abbrev pub longest_value : Sizes → ℕ
longest_value sizes = longest_value_in sizes.slot_size

abbrev pub most_transactions : ℕ
most_transactions = 1024

abbrev pub most_cursors : ℕ
most_cursors = 1024

abbrev pub most_jobs : ℕ
most_jobs = 64

abbrev pub greatest_number : ℕ
greatest_number = 2 ^ 62

-- ---- what a step makes

-- a write of the store
abbrev pub write_to : Store → Change → Write
write_to store change = write_of (record { 0 = store.id }) change

abbrev pub with_move : Core → Move → Core
with_move m move = record m { timeline = moved m.timeline move }

-- ---- the manifest's entries

-- what the whole state after an entry needs
abbrev pub base_need : List ℕ → List Store → Layout → ℕ
base_need taken stores layout = batch_bytes (base_bytes taken stores layout)

-- the numbers that are taken, and the stores, after the next event
abbrev pub taken_with : Core → List ℕ
taken_with m = m.manifest.taken ++ (number_of m + 1) ∷ []

abbrev pub stores_with : Core → List ℕ → Mode → ℕ → List Store
stores_with m name mode prefix_length =
    (now m).stores ++ new_store (number_of m + 1) name mode prefix_length ∷ []

abbrev pub stores_but : Core → Store → List Store
stores_but m store = without store.id (now m).stores

-- the nodes of other stores
abbrev pub layout_but : Layout → ℕ → Layout
layout_but layout id = filter (λ node. not (node.store == id)) layout
