-- What a device stores of a life, as the machine says it.
use Rattle.std.specs.Prelude.{◌≡◌, ℕ, ◌-◌, ◌≤◌, nat_le, Bool, List, [], ◌∷◌, ◌++◌, take}
use Rattle.std.specs.List.{filter}
use Rattle.hse_rows.specs.states.State.{State}
use Rattle.hse_rows.specs.states.History.{Event, commits, creates, drops, happened, fold, events_since}
use Rattle.hse_rows.specs.machine.Log.{Numbered, LogState}
use Rattle.hse_rows.specs.machine.Sizes.{Sizes}
use Rattle.hse_rows.specs.rows.Layout.{Layout}
use Rattle.hse_rows.specs.machine.ManifestRoom.{ManifestState, batch_bytes, creation_bytes, drop_bytes, gained}
use Rattle.hse_rows.specs.machine.Core.{Core, Stored, base_need, layout_but}
use Rattle.recovery.specs.Image.{Loaded, IsLoaded}
use Rattle.recovery.specs.Machine.{stored_of}

-- ---- the manifest and the layout at a number

-- the manifest and the sets that it names
pub record Entered : Type 0 where
  pub manifest : ManifestState
  pub layout : Layout

-- with the entry of the event that led to this state: so many bytes, and these sets stay
abbrev pub entered_by : Sizes → Entered → State → ℕ → Layout → Entered
entered_by sizes before state need layout = record {
  manifest = gained sizes.half_size before.manifest (batch_bytes need)
      (base_need (before.manifest.taken ++ state.number ∷ []) state.stores layout)
      (before.manifest.taken ++ state.number ∷ []);
  layout = layout;
}

-- A creation and a drop have an entry each, as the events follow this state. A commit has none.
abbrev pub entered_with : Sizes → State → Entered → List Event → Entered
entered_with sizes state before [] = before
entered_with sizes state before (commits writes ∷ events) =
    entered_with sizes (happened state (commits writes)) before events
entered_with sizes state before (creates name mode prefix_length ∷ events) =
    entered_with sizes (happened state (creates name mode prefix_length))
    (entered_by sizes before (happened state (creates name mode prefix_length)) (creation_bytes name) before.layout)
    events
entered_with sizes state before (drops id ∷ events) =
    entered_with sizes (happened state (drops id))
    (entered_by sizes before (happened state (drops id)) drop_bytes (layout_but before.layout id))
    events

-- the events above what is safe, up to this number
abbrev pub events_to : Core → ℕ → List Event
events_to m number = take (number - m.safe) (events_since m.timeline.base m.timeline.history m.safe)

abbrev pub entered_at : Core → ℕ → Entered
entered_at m number =
    entered_with m.sizes (fold m.timeline.base m.timeline.history m.safe)
    (record { manifest = m.manifest; layout = m.layout }) (events_to m number)

-- ---- all of it

abbrev pub is_up_to : ℕ → Numbered → Bool
is_up_to number commit = nat_le commit.number number

-- the log with the commits up to this number
abbrev pub log_to : ℕ → LogState → LogState
log_to number log = record log { active = filter (is_up_to number) log.active }

-- What a device stores of the life at this number, from the safe one on: the state of that number, the log's commits up to
-- it, and the manifest with the entries of the creations and drops up to it.
abbrev pub stored_at : Core → ℕ → Stored
stored_at m number = record {
  sizes = m.sizes;
  base = fold m.timeline.base m.timeline.history number;
  log = log_to number m.log;
  manifest = (entered_at m number).manifest;
  layout = (entered_at m number).layout;
}

-- The image is formed, and this is what it stores.
pub record IsStored (image : List ℕ) (stored : Stored) : Type 0 where
  pub loaded : Loaded
  pub is : IsLoaded image loaded
  pub same : stored_of loaded ≡ stored

-- The image stores what the life has at a number from the safe one on, up to this one.
pub record StoresFrom (m : Core) (last : ℕ) (image : List ℕ) : Type 0 where
  pub number : ℕ
  pub reaches : m.safe ≤ number
  pub within : number ≤ last
  pub stored : IsStored image (stored_at m number)
