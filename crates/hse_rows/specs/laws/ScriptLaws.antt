-- Laws of the script machine, each the clause of a function of `src/script_laws.rt`.
use Rattle.std.specs.Prelude.{◌≡◌, ◌≢◌, ◌⊎◌, ℕ, ◌+◌, ◌-◌, true, List, [], ◌∷◌, Some, None}
use Rattle.std.specs.List.{AllByRecursion}
use Rattle.hse_rows.specs.declared.store.Mode.{Mode}
use Rattle.hse_rows.specs.states.State.{Store, IsState, store_named}
use Rattle.hse_rows.specs.transactions.Isolation.{IsIsolated, AreIsolated}
use Rattle.hse_rows.specs.transactions.Moves as move
use Rattle.hse_rows.specs.rows.Job.{AreNumbered}
use Rattle.hse_rows.specs.machine.Turn.{sync, create, drop, home}
use Rattle.hse_rows.specs.machine.Replies.{Refusal, Answer, ok, refused, no_memory, device_fault}
use Rattle.hse_rows.specs.machine.Calls.{Call}
use Rattle.hse_rows.specs.machine.Calls as call
use Rattle.hse_rows.specs.machine.Core.{Core, Stored, life, blocks_in, now, number_of, with_move, layout_but}
use Rattle.hse_rows.specs.machine.ManifestEntry.{creation_entry, drop_entry, entered}
use Rattle.hse_rows.specs.machine.CoreStep.{Found, loads, breaks_off, has_version}
use Rattle.hse_rows.specs.laws.CoreLaws.{TakesEvent, Stands}
use Rattle.hse_rows.specs.machine.Limits.{IsWithinLimits}
use Rattle.hse_rows.specs.machine.Recorded.{IsRecorded, IsInOrder}
use Rattle.hse_rows.specs.script.ScriptLines.{Line, begin, write_by, commit, abort, open_cursor, seek, seek_range, read, update, close_cursor, take, end_turn, turn, job, auto, reopen}
use Rattle.hse_rows.specs.script.Script.{Script, begins_with}
use Rattle.hse_rows.specs.script.ScriptRefusal.{refusal}
use Rattle.hse_rows.specs.script.ScriptDone.{turned, turn_failed, turn_reply, once_picked}
use Rattle.hse_rows.specs.script.ScriptStep.{Step, answer_of, led_to}
use Rattle.hse_rows.specs.script.ScriptCalls.{LeadsAnswered, calls_of}

-- ---- runs

-- a line, what it was answered, and what the device had for an opening
pub record Entry : Type 0 where
  pub found : Found
  pub line : Line
  pub answer : Answer (List ℕ)

-- From old these entries, one after another, lead to new.
abbrev pub Run : Script → List Entry → Script → Type 0
Run old [] new = new ≡ old
Run old (entry ∷ entries) new =
    (mid : Script) × Step entry.found old entry.line entry.answer mid × Run mid entries new

-- ---- the phases of a turn in a row do what one step would

-- A sync makes all safe and tells the last number. Where a device call fails nothing is, and the engine is broken.
abbrev pub SyncsAreOneStep : Type 0
SyncsAreOneStep =
    (m : Core)
    → (turned m (call.take sync) ≡ record m { safe = number_of m; turn = home })
    × (turn_reply m (call.take sync) ≡ ok (number_of m))
    × (turn_failed m (call.take sync) ≡ record m { is_broken = true; turn = home })

-- a core with one move more, when all is safe
abbrev pub SafeAfter : Core → Core
SafeAfter m = record m { safe = number_of m; turn = home }

-- A creation is an event and tells its number, all up to it is safe, and the manifest has its entry. One that fails is an event.
abbrev pub CreationsAreOneStep : Type 0
CreationsAreOneStep =
    (m : Core) (name : List ℕ) (mode : Mode) (prefix_length : ℕ)
    → (turned m (call.take (create name mode prefix_length))
    ≡ record (SafeAfter (with_move m (move.create name mode prefix_length))) {
      manifest = entered m (creation_entry m name mode prefix_length);
    })
    × (turn_reply m (call.take (create name mode prefix_length)) ≡ ok (number_of m + 1))
    × (turn_failed m (call.take (create name mode prefix_length))
    ≡ record (with_move m (move.create name mode prefix_length)) { is_broken = true; turn = home })

-- A drop likewise, and the sets of its store leave.
abbrev pub DropsAreOneStep : Type 0
DropsAreOneStep =
    (m : Core) (name : List ℕ) (store : Store) → store_named (now m) name ≡ Some store
    → (turned m (call.take (drop name))
    ≡ record (SafeAfter (with_move m (move.remove store.id))) {
      manifest = entered m (drop_entry m store);
      layout = layout_but m.layout store.id;
      used_slots = m.used_slots - (blocks_in m.layout - blocks_in (layout_but m.layout store.id));
    })
    × (turn_reply m (call.take (drop name)) ≡ ok (number_of m + 1))
    × (turn_failed m (call.take (drop name)) ≡ record (with_move m (move.remove store.id)) { is_broken = true; turn = home })

-- ---- lines as calls of the core

-- Each step of the script machine leads the core on by calls, each answered as it may be. What they tell is the line's
-- answer. No line but a reopening reopens.
abbrev pub LinesAreCalls : Type 0
LinesAreCalls =
    (found : Found) (old new : Script) (line : Line) (answer : Answer (List ℕ))
    → AreNumbered old.core.jobs old.core.picked → Step found old line answer new
    → (calls : List Call) × LeadsAnswered found old calls new.core answer
    × (line ≢ reopen → AllByRecursion (λ one. one ≢ call.reopen) calls)

-- And those of a line that nothing refuses are its phases in a row.
abbrev pub LinesAreTheirPhases : Type 0
LinesAreTheirPhases =
    (found : Found) (old new : Script) (line : Line) (answer : Answer (List ℕ))
    → AreNumbered old.core.jobs old.core.picked → refusal old line ≡ None → answer ≢ no_memory → Step found old line answer new
    → LeadsAnswered found old (calls_of old line) new.core answer

-- ---- answers

-- But for want of memory, an answer leads one way.
abbrev pub LinesLeadOneWay : Type 0
LinesLeadOneWay =
    (found : Found) (old new : Script) (line : Line) (answer : Answer (List ℕ))
    → answer ≢ no_memory → Step found old line answer new → new ≡ led_to found old line answer

-- the lines that pick a job and install it
abbrev pub PicksJob : Line → Type 0
PicksJob (job wish) = Unit {0}
PicksJob auto = Unit {0}
PicksJob line = ⊥

-- nothing changes, but that a job may have been picked and is gone again
abbrev pub Leaves : Line → Script → Script → Type 0
Leaves line old new = (new ≡ old) ⊎ (PicksJob line × (new ≡ once_picked old))

-- Want of memory changes nothing but that.
abbrev pub WantOfMemoryChangesNothing : Type 0
WantOfMemoryChangesNothing =
    (found : Found) (old new : Script) (line : Line)
    → Step found old line no_memory new → Leaves line old new

-- A refusal changes nothing but that, and that an end gives a turn back whose device calls failed.
abbrev pub RefusalsChangeNothing : Type 0
RefusalsChangeNothing =
    (found : Found) (old new : Script) (line : Line) (reason : Refusal (List ℕ))
    → line ≢ end_turn → Step found old line (refused reason) new → Leaves line old new

-- But for want of memory and a device fault, a line has one answer.
abbrev pub LinesHaveOneAnswer : Type 0
LinesHaveOneAnswer =
    (found : Found) (old new : Script) (line : Line) (answer : Answer (List ℕ))
    → answer ≢ no_memory → answer ≢ device_fault → Step found old line answer new → answer ≡ answer_of found old line

-- And that is an answer of the machine's.
abbrev pub LinesAreAnswered : Type 0
LinesAreAnswered =
    (found : Found) (old : Script) (line : Line)
    → Step found old line (answer_of found old line) (led_to found old line (answer_of found old line))

-- ---- what turns and jobs leave

-- the lines that may change the history or a transaction
abbrev pub ChangesTimeline : Line → Type 0
ChangesTimeline (begin name) = Unit {0}
ChangesTimeline (write_by who store change) = Unit {0}
ChangesTimeline (commit name) = Unit {0}
ChangesTimeline (abort name) = Unit {0}
ChangesTimeline (take wish) = TakesEvent wish
ChangesTimeline (turn wish) = TakesEvent wish
ChangesTimeline reopen = Unit {0}
ChangesTimeline line = ⊥

-- and those that may change a name of a transaction, or a cursor or its name
abbrev pub ChangesNames : Line → Type 0
ChangesNames (begin name) = Unit {0}
ChangesNames (open_cursor name who store direction filter) = Unit {0}
ChangesNames (seek name key) = Unit {0}
ChangesNames (seek_range name first last) = Unit {0}
ChangesNames (read name) = Unit {0}
ChangesNames (update name) = Unit {0}
ChangesNames (close_cursor name) = Unit {0}
ChangesNames reopen = Unit {0}
ChangesNames line = ⊥

-- The phases of a sync, a freeze and an install, picks and builds change no state and no transaction,
abbrev pub LinesKeepTimelines : Type 0
LinesKeepTimelines =
    (found : Found) (old new : Script) (line : Line) (answer : Answer (List ℕ))
    → Step found old line answer new → (ChangesTimeline line → ⊥) → new.core.timeline ≡ old.core.timeline

-- and no cursor with its list and position, and no name.
abbrev pub LinesKeepNames : Type 0
LinesKeepNames =
    (found : Found) (old new : Script) (line : Line) (answer : Answer (List ℕ))
    → Step found old line answer new → (ChangesNames line → ⊥)
    → (new.cursors ≡ old.cursors) × (new.begun_names ≡ old.begun_names)

-- ---- what holds in every script

-- the core in a life that began at what the device stored
pub record IsSound (since : Stored) (m : Core) : Type 0 where
  pub limits : IsWithinLimits m
  pub recorded : IsRecorded since m
  pub stands : Stands m.timeline

-- what the device stores for such a life
pub record IsLoadable (stored : Stored) : Type 0 where
  pub limits : IsWithinLimits (life stored)
  pub order : IsInOrder stored
  pub state : IsState stored.base

abbrev pub LoadsSound : Found → Type 0
LoadsSound (loads stored) = IsLoadable stored
LoadsSound (breaks_off part place) = Unit {0}
LoadsSound (has_version version) = Unit {0}

-- what the device stored when the life began that this answer leaves
abbrev pub stored_by : Stored → Found → Line → Answer (List ℕ) → Stored
stored_by since (loads stored) reopen (ok number) = stored
stored_by since found line answer = since

abbrev pub stored_in : Stored → List Entry → Stored
stored_in since [] = since
stored_in since (entry ∷ entries) = stored_in (stored_by since entry.found entry.line entry.answer) entries

abbrev pub LinesKeepSound : Type 0
LinesKeepSound =
    (since : Stored) (found : Found) (old new : Script) (line : Line) (answer : Answer (List ℕ))
    → LoadsSound found → IsSound since old.core → Step found old line answer new
    → IsSound (stored_by since found line answer) new.core

abbrev pub ScriptsAreSound : Type 0
ScriptsAreSound =
    (stored : Stored) (entries : List Entry) (new : Script)
    → IsLoadable stored → AllByRecursion (λ entry. LoadsSound entry.found) entries
    → Run (begins_with (life stored)) entries new → IsSound (stored_in stored entries) new.core

-- ---- snapshot isolation of scripts

abbrev pub LinesKeepIsolated : Type 0
LinesKeepIsolated =
    (found : Found) (old new : Script) (line : Line) (answer : Answer (List ℕ))
    → IsIsolated old.core.timeline → Step found old line answer new → IsIsolated new.core.timeline

-- In every script no two transactions that each began before the other's commit both committed overlapping writes.
abbrev pub ScriptsAreIsolated : Type 0
ScriptsAreIsolated =
    (stored : Stored) (entries : List Entry) (new : Script)
    → Run (begins_with (life stored)) entries new → AreIsolated new.core.timeline
