-- What the log and the manifest have of a history: the commits, and the numbers of the creations and drops.
use Rattle.std.specs.Prelude.{◌≡◌, ℕ, ◌+◌, ◌<◌, ◌≤◌, nat_lt, Bool, true, false, List, [], ◌∷◌, ◌++◌, Option}
use Rattle.std.specs.List.{AllByRecursion, filter}
use Rattle.hse_rows.specs.machine.Rising.{Rise}
use Rattle.hse_rows.specs.states.State.{State}
use Rattle.hse_rows.specs.states.History.{Event, commits, creates, drops, last_number}
use Rattle.hse_rows.specs.machine.Log.{Numbered, Frozen, LogState}
use Rattle.hse_rows.specs.rows.Job.{ingesting, on_run}
use Rattle.hse_rows.specs.machine.Turn.{Plan, settles, enters, removes, installs, Turn, home, taken, ran}
use Rattle.hse_rows.specs.machine.Core.{Core, Stored, oldest}
use Rattle.hse_rows.specs.machine.ManifestEntry.{taken_above}

-- the commits of these events, of which the first has this number
abbrev pub commits_in : ℕ → List Event → List Numbered
commits_in number [] = []
commits_in number (commits writes ∷ events) =
    record { number = number; writes = writes } ∷ commits_in (number + 1) events
commits_in number (creates name mode prefix_length ∷ events) = commits_in (number + 1) events
commits_in number (drops id ∷ events) = commits_in (number + 1) events

-- the numbers of the creations and drops
abbrev pub taken_in : ℕ → List Event → List ℕ
taken_in number [] = []
taken_in number (commits writes ∷ events) = taken_in (number + 1) events
taken_in number (creates name mode prefix_length ∷ events) = number ∷ taken_in (number + 1) events
taken_in number (drops id ∷ events) = number ∷ taken_in (number + 1) events

-- ---- what the log keeps of them

-- these commits have numbers up to this one
abbrev pub CommitsUpTo : ℕ → List Numbered → Type 0
CommitsUpTo number these = AllByRecursion (λ commit. commit.number ≤ number) these

-- these have rising numbers above the one and up to the other
abbrev pub CommitsBetween : ℕ → ℕ → List Numbered → Type 0
CommitsBetween low high these = Rise (λ commit. commit.number) (low + 1) (high + 1) these

-- the last number of the newest frozen layer, or the horizon
abbrev pub last_frozen : ℕ → List Frozen → ℕ
last_frozen horizon [] = horizon
last_frozen horizon (layer ∷ layers) = layer.last

-- Frozen layers, newest first, from the horizon up to this number. The commits of each are above the next older one.
abbrev pub AreLayers : ℕ → ℕ → List Frozen → Type 0
AreLayers horizon last [] = horizon ≤ last
AreLayers horizon last (layer ∷ layers) =
    (layer.last ≤ last) × CommitsBetween (last_frozen horizon layers) layer.last layer.commits
    × AreLayers horizon layer.last layers

-- their commits, in order
abbrev pub frozen_commits : List Frozen → List Numbered
frozen_commits [] = []
frozen_commits (layer ∷ layers) = frozen_commits layers ++ layer.commits

-- all commits of a log, in order
abbrev pub commits_of : LogState → List Numbered
commits_of log = frozen_commits log.frozen ++ log.active

-- Of these commits and then those of the history, each stands in the log, or its number is up to the horizon.
pub record Records (before : List Numbered) (log : LogState) (base : State) (events : List Event) : Type 0 where
  -- those that no layer has any more
  pub gone : List Numbered
  pub all : gone ++ commits_of log ≡ before ++ commits_in (base.number + 1) events
  pub below : CommitsUpTo log.horizon gone
  -- and all that stand in the log
  pub above : AllByRecursion (λ commit. log.horizon < commit.number) (commits_of log)
  pub layers : AreLayers log.horizon (last_number base events) log.frozen
  pub active : CommitsBetween (last_frozen log.horizon log.frozen) (last_number base events) log.active

-- ---- what the manifest keeps of them

abbrev pub above : ℕ → List ℕ → List ℕ
above horizon numbers = filter (λ number. nat_lt horizon number) numbers

-- the number of a creation or drop whose turn is out
abbrev pub due_by : ℕ → Plan → List ℕ
due_by number settles = []
due_by number (enters manifest) = number ∷ []
due_by number (removes id manifest) = number ∷ []
due_by number (installs id work new manifest) = []

abbrev pub due : Turn → List ℕ
due home = []
due (taken turn) = due_by turn.number turn.plan
due (ran turn has_failed) = due_by turn.number turn.plan

-- The manifest after a turn has its number too. After an ingest it has those above the new horizon.
abbrev pub PlanRecords : Option Frozen → List ℕ → ℕ → Plan → Type 0
PlanRecords oldest numbers number settles = Unit {0}
PlanRecords oldest numbers number (enters manifest) = manifest.taken ≡ numbers ++ number ∷ []
PlanRecords oldest numbers number (removes id manifest) = manifest.taken ≡ numbers ++ number ∷ []
PlanRecords oldest numbers number (installs id ingesting new manifest) = manifest.taken ≡ taken_above oldest numbers
PlanRecords oldest numbers number (installs id (on_run run) new manifest) = manifest.taken ≡ numbers

abbrev pub TurnRecords : Option Frozen → List ℕ → Turn → Type 0
TurnRecords oldest numbers home = Unit {0}
TurnRecords oldest numbers (taken turn) = PlanRecords oldest numbers turn.number turn.plan
TurnRecords oldest numbers (ran turn has_failed) = PlanRecords oldest numbers turn.number turn.plan

-- a turn whose device calls failed broke the engine
abbrev pub BreaksBy : Bool → Turn → Type 0
BreaksBy is_broken home = Unit {0}
BreaksBy is_broken (taken turn) = Unit {0}
BreaksBy is_broken (ran turn false) = Unit {0}
BreaksBy is_broken (ran turn true) = is_broken ≡ true

-- ---- both

-- What log and manifest have in a life that began at what the device stored.
pub record IsRecorded (since : Stored) (m : Core) : Type 0 where
  pub base : m.timeline.base ≡ since.base
  pub log : Records (commits_of since.log) m.log m.timeline.base m.timeline.history
  -- While no device call failed, the manifest has the numbers of the creations and drops above the horizon, but for one
  -- whose turn is out.
  pub manifest :
      m.is_broken ≡ false
      → m.manifest.taken ++ due m.turn
      ≡ above m.log.horizon (since.manifest.taken ++ taken_in (m.timeline.base.number + 1) m.timeline.history)
  pub turn : TurnRecords (oldest m.log.frozen) m.manifest.taken m.turn
  pub broken : BreaksBy m.is_broken m.turn

-- A device stores layers and numbers in order.
pub record IsInOrder (stored : Stored) : Type 0 where
  pub layers : AreLayers stored.log.horizon stored.base.number stored.log.frozen
  pub active : CommitsBetween (last_frozen stored.log.horizon stored.log.frozen) stored.base.number stored.log.active
  pub taken : AllByRecursion (λ number. stored.log.horizon < number) stored.manifest.taken
