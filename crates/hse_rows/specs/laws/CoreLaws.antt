-- Laws of the core, each the clause of a function of `src/core_laws.rt`.
use Rattle.std.specs.Prelude.{◌≡◌, ◌≢◌, ℕ, ◌+◌, ◌-◌, ◌≤◌, List, [], ◌∷◌, length, sum_by}
use Rattle.std.specs.List.{AllByRecursion}
use Rattle.hse_rows.specs.states.State.{IsState}
use Rattle.hse_rows.specs.states.Rooted.{AreRooted}
use Rattle.hse_rows.specs.transactions.Timeline.{Timeline, Goes}
use Rattle.hse_rows.specs.transactions.Timeline as timeline
use Rattle.hse_rows.specs.transactions.Isolation.{IsIsolated, AreIsolated}
use Rattle.hse_rows.specs.transactions.Sources.{IsSourced}
use Rattle.hse_rows.specs.rows.Layout.{Layout, NewSet, sets_at}
use Rattle.hse_rows.specs.rows.Job.{Work, ingesting, on_run, blocks_of, needed_blocks, taken_over_blocks, freed_blocks, sets_of_run, installed}
use Rattle.hse_rows.specs.machine.Turn.{TurnWish, sync, freeze, create, drop}
use Rattle.hse_rows.specs.machine.Replies.{Refusal, Answer, ok, refused, no_memory, device_fault, canceled_held, canceled_since}
use Rattle.hse_rows.specs.machine.Calls.{Call, begin, write_by, get, commit, abort, list_stores, tree, info, take_place, give_place, pick, build, drop_job, next_job, take, take_install, write_turn, end_turn, reopen}
use Rattle.hse_rows.specs.machine.Core.{Core, Stored, blocks_in, life, layout_but}
use Rattle.hse_rows.specs.machine.Recorded.{IsRecorded, IsInOrder}
use Rattle.hse_rows.specs.machine.Limits.{IsWithinLimits}
use Rattle.hse_rows.specs.machine.CoreStep.{Found, loads, breaks_off, has_version, Step, answer_of, led_to}

-- ---- runs

-- a call, what it was answered, and what the device had for an opening
pub record Entry : Type 0 where
  pub found : Found
  pub call : Call
  pub answer : Answer ℕ

-- From old these entries, one after another, lead to new.
abbrev pub Run : Core → List Entry → Core → Type 0
Run old [] new = new ≡ old
Run old (entry ∷ entries) new =
    (mid : Core) × Step entry.found old entry.call entry.answer mid × Run mid entries new

-- ---- snapshot isolation

-- A step moves the timeline by an allowed move, or opens it anew, or leaves it.
abbrev pub StepsMoveTimelines : Type 0
StepsMoveTimelines =
    (found : Found) (old new : Core) (call : Call) (answer : Answer ℕ)
    → Step found old call answer new → Goes old.timeline new.timeline

-- In every run no two transactions that each began before the other's commit both committed overlapping writes.
abbrev pub RunsAreIsolated : Type 0
RunsAreIsolated =
    (stored : Stored) (entries : List Entry) (new : Core)
    → Run (life stored) entries new → AreIsolated new.timeline

-- A commit is never canceled.
abbrev pub CommitsAreNotCanceled : Type 0
CommitsAreNotCanceled =
    (found : Found) (old new : Core) (order number : ℕ)
    → (Step found old (commit order) (refused (canceled_held number)) new → ⊥)
    × (Step found old (commit order) (refused (canceled_since number)) new → ⊥)

-- ---- what turns and jobs leave

-- the turns that make an event
abbrev pub TakesEvent : TurnWish → Type 0
TakesEvent sync = ⊥
TakesEvent freeze = ⊥
TakesEvent (create name mode prefix) = Unit {0}
TakesEvent (drop name) = Unit {0}

-- the calls that may change the history or a transaction
abbrev pub ChangesTimeline : Call → Type 0
ChangesTimeline begin = Unit {0}
ChangesTimeline (write_by actor name change) = Unit {0}
ChangesTimeline (commit order) = Unit {0}
ChangesTimeline (abort order) = Unit {0}
ChangesTimeline (take wish) = TakesEvent wish
ChangesTimeline (take_install id) = ⊥
ChangesTimeline reopen = Unit {0}
ChangesTimeline (get actor name key) = ⊥
ChangesTimeline list_stores = ⊥
ChangesTimeline (tree name) = ⊥
ChangesTimeline info = ⊥
ChangesTimeline take_place = ⊥
ChangesTimeline give_place = ⊥
ChangesTimeline (pick wish) = ⊥
ChangesTimeline (build id) = ⊥
ChangesTimeline (drop_job id) = ⊥
ChangesTimeline next_job = ⊥
ChangesTimeline write_turn = ⊥
ChangesTimeline end_turn = ⊥

-- and those that change the count of cursors
abbrev pub ChangesCursors : Call → Type 0
ChangesCursors take_place = Unit {0}
ChangesCursors give_place = Unit {0}
ChangesCursors reopen = Unit {0}
ChangesCursors begin = ⊥
ChangesCursors (write_by actor name change) = ⊥
ChangesCursors (commit order) = ⊥
ChangesCursors (abort order) = ⊥
ChangesCursors (take wish) = ⊥
ChangesCursors (take_install id) = ⊥
ChangesCursors (get actor name key) = ⊥
ChangesCursors list_stores = ⊥
ChangesCursors (tree name) = ⊥
ChangesCursors info = ⊥
ChangesCursors (pick wish) = ⊥
ChangesCursors (build id) = ⊥
ChangesCursors (drop_job id) = ⊥
ChangesCursors next_job = ⊥
ChangesCursors write_turn = ⊥
ChangesCursors end_turn = ⊥

-- The phases of a sync, a freeze and an install, picks and builds change no state, no transaction and no count of cursors.
abbrev pub OthersKeepTimelines : Type 0
OthersKeepTimelines =
    (found : Found) (old new : Core) (call : Call) (answer : Answer ℕ)
    → Step found old call answer new → (ChangesTimeline call → ⊥) → new.timeline ≡ old.timeline

abbrev pub OthersKeepCursors : Type 0
OthersKeepCursors =
    (found : Found) (old new : Core) (call : Call) (answer : Answer ℕ)
    → Step found old call answer new → (ChangesCursors call → ⊥) → new.cursors ≡ old.cursors

-- ---- what stands in every timeline

pub record Stands (m : Timeline) : Type 0 where
  -- in the base and now two names have two ids, and ids are numbers of events
  pub base : IsState m.base
  pub now : IsState (timeline.now m)
  pub isolated : IsIsolated m
  pub sourced : IsSourced m
  -- each commit writes to stores that were created before it
  pub rooted : AreRooted m.base.number m.history

abbrev pub LoadsState : Found → Type 0
LoadsState (loads stored) = IsState stored.base
LoadsState (breaks_off part place) = Unit {0}
LoadsState (has_version version) = Unit {0}

-- It stands at the beginning of a life, and steps keep it.
abbrev pub LivesStand : Type 0
LivesStand = (stored : Stored) → IsState stored.base → Stands (life stored).timeline

abbrev pub StepsKeepStanding : Type 0
StepsKeepStanding =
    (found : Found) (old new : Core) (call : Call) (answer : Answer ℕ)
    → LoadsState found → Stands old.timeline → Step found old call answer new → Stands new.timeline

-- ---- answers

-- An answer leads one way.
abbrev pub AnswersLeadOneWay : Type 0
AnswersLeadOneWay =
    (found : Found) (old new : Core) (call : Call) (answer : Answer ℕ)
    → Step found old call answer new → new ≡ led_to found old call answer

-- A refusal changes nothing, but that an end gives a turn back whose device calls failed.
abbrev pub RefusalsChangeNothing : Type 0
RefusalsChangeNothing =
    (found : Found) (old new : Core) (call : Call) (reason : Refusal ℕ)
    → call ≢ end_turn → Step found old call (refused reason) new → new ≡ old

-- But for want of memory and a device fault, a call has one answer.
abbrev pub CallsHaveOneAnswer : Type 0
CallsHaveOneAnswer =
    (found : Found) (old new : Core) (call : Call) (answer : Answer ℕ)
    → answer ≢ no_memory → answer ≢ device_fault → Step found old call answer new → answer ≡ answer_of found old call

-- And that is an answer of the machine's.
abbrev pub CallsAreAnswered : Type 0
CallsAreAnswered =
    (found : Found) (old : Core) (call : Call)
    → Step found old call (answer_of found old call) (led_to found old call (answer_of found old call))

-- ---- limits

-- what is loaded is within the limits
abbrev pub LoadsWithinLimits : Found → Type 0
LoadsWithinLimits (loads stored) = IsWithinLimits (life stored)
LoadsWithinLimits (breaks_off part place) = Unit {0}
LoadsWithinLimits (has_version version) = Unit {0}

-- Steps keep within the limits.
abbrev pub StepsKeepLimits : Type 0
StepsKeepLimits =
    (found : Found) (old new : Core) (call : Call) (answer : Answer ℕ)
    → IsWithinLimits old → LoadsWithinLimits found → Step found old call answer new → IsWithinLimits new

-- So every run keeps within them.
abbrev pub RunsKeepLimits : Type 0
RunsKeepLimits =
    (stored : Stored) (entries : List Entry) (new : Core)
    → IsWithinLimits (life stored) → AllByRecursion (λ entry. LoadsWithinLimits entry.found) entries
    → Run (life stored) entries new → IsWithinLimits new

-- ---- slots

-- a job's run is within the sets of its node, and its new sets take over at most the run's blocks
abbrev pub WorkFits : Layout → Work → List NewSet → Type 0
WorkFits layout ingesting sets = Unit {0}
WorkFits layout (on_run run) sets =
    (run.older + run.len ≤ length (sets_at layout run.store run.path))
    × (taken_over_blocks (on_run run) sets ≤ sum_by blocks_of (sets_of_run layout run))

-- Where the blocks of the layout and those that an install writes are used slots, those after it are, beside those it frees.
abbrev pub InstallsCountSlots : Type 0
InstallsCountSlots =
    (layout : Layout) (work : Work) (sets : List NewSet) (used : ℕ)
    → WorkFits layout work sets → blocks_in layout + needed_blocks work sets ≤ used
    → blocks_in (installed layout work sets) + freed_blocks layout work sets ≤ used

-- And so where the sets of a store leave.
abbrev pub DropsCountSlots : Type 0
DropsCountSlots =
    (layout : Layout) (id used : ℕ) → blocks_in layout ≤ used
    → blocks_in (layout_but layout id) + (blocks_in layout - blocks_in (layout_but layout id)) ≤ used

-- ---- what log and manifest keep

-- what the device stored when the life began that this answer leaves
abbrev pub stored_by : Stored → Found → Call → Answer ℕ → Stored
stored_by since (loads stored) reopen (ok number) = stored
stored_by since found call answer = since

abbrev pub stored_in : Stored → List Entry → Stored
stored_in since [] = since
stored_in since (entry ∷ entries) = stored_in (stored_by since entry.found entry.call entry.answer) entries

abbrev pub LoadsInOrder : Found → Type 0
LoadsInOrder (loads stored) = IsInOrder stored
LoadsInOrder (breaks_off part place) = Unit {0}
LoadsInOrder (has_version version) = Unit {0}

-- A life begins recorded.
abbrev pub LivesBeginRecorded : Type 0
LivesBeginRecorded = (stored : Stored) → IsInOrder stored → IsRecorded stored (life stored)

-- The log has the commits of the life but for those up to the horizon, and the manifest the other numbers above it.
abbrev pub StepsKeepRecords : Type 0
StepsKeepRecords =
    (since : Stored) (found : Found) (old new : Core) (call : Call) (answer : Answer ℕ)
    → LoadsInOrder found → IsRecorded since old → Step found old call answer new
    → IsRecorded (stored_by since found call answer) new

abbrev pub RunsAreRecorded : Type 0
RunsAreRecorded =
    (stored : Stored) (entries : List Entry) (new : Core)
    → IsInOrder stored → AllByRecursion (λ entry. LoadsInOrder entry.found) entries → Run (life stored) entries new
    → IsRecorded (stored_in stored entries) new
