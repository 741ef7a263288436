-- Jobs: what each is about, what it makes of the sets of a tree, and how far it is.
use Rattle.std.specs.Prelude.{◌≡◌, ℕ, ◌+◌, ◌-◌, ◌==◌, Bool, true, false, ◌&&◌, if◌then◌else◌, List, [], ◌∷◌, map, sum_by, Option}
use Rattle.std.specs.List.{AllByRecursion, find}
use Rattle.hse_rows.specs.writes.NormalForm.{same}
use Rattle.hse_rows.specs.machine.Rising.{Rise}
use Rattle.hse_rows.specs.states.State.{Store}
use Rattle.hse_rows.specs.machine.Log.{Numbered}
use Rattle.hse_rows.specs.rows.Layout.{RowsInBlocks, Layout, sets_at, with_sets, run_in, in_place_of_run, NewSet, new_sets, in_fronts, ingest_sets, compaction_of, key_compaction_of, spill_of}

-- what is done with a run of a node's sets
pub data RunKind : Type 0 where
  -- its rows in new key blocks, with the run's value blocks
  keys : RunKind
  -- its rows in new blocks
  values : RunKind
  -- its rows to the node's children
  spill : RunKind

-- what a job is asked for
pub data JobWish : Type 0 where
  -- the oldest frozen layer becomes sets at the roots
  ingest : JobWish
  -- store, path, the newest set of the run counted from the front, and how many sets
  of_run : RunKind → List ℕ → List ℕ → ℕ → ℕ → JobWish

-- A run is as many adjacent sets of a node, with this many older ones behind.
pub record Run : Type 0 where
  pub kind : RunKind
  pub store : ℕ
  pub prefix_length : ℕ
  pub path : List ℕ
  pub older : ℕ
  pub len : ℕ
  -- nothing older can stand behind it: deletions are left out
  pub last : Bool

pub data Work : Type 0 where
  ingesting : Work
  on_run : Run → Work

pub data JobState : Type 0 where
  picked : JobState
  built : JobState
  installing : JobState

pub record Job : Type 0 where
  -- how many were picked before it since the opening, which tells it from all others
  pub id : ℕ
  pub work : Work
  pub state : JobState
  -- what was built
  pub sets : List NewSet

-- the jobs' ids differ, in the order picked, and are less than the count of picks
abbrev pub AreNumbered : List Job → ℕ → Type 0
AreNumbered jobs count = Rise (λ job. job.id) 0 count jobs

abbrev pub is_picked : JobState → Bool
is_picked picked = true
is_picked built = false
is_picked installing = false

abbrev pub is_built : JobState → Bool
is_built picked = false
is_built built = true
is_built installing = false

abbrev pub is_installing : JobState → Bool
is_installing picked = false
is_installing built = false
is_installing installing = true

abbrev pub is_spill : RunKind → Bool
is_spill keys = false
is_spill values = false
is_spill spill = true

abbrev pub writes_values : RunKind → Bool
writes_values keys = false
writes_values values = true
writes_values spill = true

-- ---- which job

abbrev pub job_of : List Job → ℕ → Option Job
job_of jobs id = find (λ job. job.id == id) jobs

abbrev pub is_ingest : Work → Bool
is_ingest ingesting = true
is_ingest (on_run run) = false

-- the live ingest
abbrev pub live_ingest : List Job → Option Job
live_ingest jobs = find (λ job. is_ingest job.work) jobs

abbrev pub claims : ℕ → List ℕ → Work → Bool
claims store path ingesting = false
claims store path (on_run run) = (run.store == store) && same run.path path

-- the job whose run is of this node
abbrev pub claimer : List Job → ℕ → List ℕ → Option Job
claimer jobs store path = find (λ job. claims store path job.work) jobs

-- Of a job and one picked later at most one is an ingest, and they are on different nodes.
abbrev pub AreApart : Work → Work → Type 0
AreApart earlier ingesting = is_ingest earlier ≡ false
AreApart earlier (on_run run) = claims run.store run.path earlier ≡ false

-- and so are any two of these
abbrev pub ClaimApart : List Job → Type 0
ClaimApart [] = Unit {0}
ClaimApart (job ∷ jobs) = AllByRecursion (λ later. AreApart job.work later.work) jobs × ClaimApart jobs

abbrev pub is_on_store : ℕ → Work → Bool
is_on_store store ingesting = false
is_on_store store (on_run run) = run.store == store

-- the first picked on the store
abbrev pub first_on : List Job → ℕ → Option Job
first_on jobs store = find (λ job. is_on_store store job.work) jobs

-- ---- what a job builds and installs

abbrev pub sets_of_run : Layout → Run → List RowsInBlocks
sets_of_run layout run = run_in (sets_at layout run.store run.path) run.older run.len

abbrev pub run_sets : ℕ → Layout → Run → RunKind → List NewSet
run_sets slot_size layout run keys =
    new_sets run.store run.path (key_compaction_of slot_size (sets_of_run layout run) run.last)
run_sets slot_size layout run values =
    new_sets run.store run.path (compaction_of slot_size (sets_of_run layout run) run.last)
run_sets slot_size layout run spill =
    spill_of slot_size run.store run.path run.prefix_length (sets_of_run layout run)

-- The sets that a job builds, where these stores are live and the oldest frozen layer has these commits.
abbrev pub built_sets : ℕ → Layout → List Store → List Numbered → Work → List NewSet
built_sets slot_size layout stores commits ingesting = ingest_sets slot_size stores commits
built_sets slot_size layout stores commits (on_run run) = run_sets slot_size layout run run.kind

-- the layout with other sets in the run's place
abbrev pub with_run : Layout → Run → List RowsInBlocks → Layout
with_run layout run sets =
    with_sets layout run.store run.path (in_place_of_run (sets_at layout run.store run.path) run.older run.len sets)

abbrev pub run_installed : Layout → Run → RunKind → List NewSet → Layout
run_installed layout run keys sets = with_run layout run (map (λ new. new.set) sets)
run_installed layout run values sets = with_run layout run (map (λ new. new.set) sets)
run_installed layout run spill sets = in_fronts (with_run layout run []) sets

-- The layout after what was built is installed.
abbrev pub installed : Layout → Work → List NewSet → Layout
installed layout ingesting sets = in_fronts layout sets
installed layout (on_run run) sets = run_installed layout run run.kind sets

-- ---- blocks

abbrev pub blocks_of : RowsInBlocks → ℕ
blocks_of set = set.prefix_blocks + set.key_blocks + set.value_blocks

-- a key compaction takes over value blocks
abbrev pub blocks_to_write : Work → RowsInBlocks → ℕ
blocks_to_write ingesting set = blocks_of set
blocks_to_write (on_run run) set = if writes_values run.kind then blocks_of set else set.prefix_blocks + set.key_blocks

-- the blocks that an install writes
abbrev pub needed_blocks : Work → List NewSet → ℕ
needed_blocks work sets = sum_by (λ (new : NewSet). blocks_to_write work new.set) sets

-- the blocks of new sets that were there before
abbrev pub taken_over_blocks : Work → List NewSet → ℕ
taken_over_blocks work sets = sum_by (λ (new : NewSet). blocks_of new.set - blocks_to_write work new.set) sets

-- the blocks that an install replaces and does not take over
abbrev pub freed_blocks : Layout → Work → List NewSet → ℕ
freed_blocks layout ingesting sets = 0
freed_blocks layout (on_run run) sets =
    sum_by blocks_of (sets_of_run layout run) - taken_over_blocks (on_run run) sets
