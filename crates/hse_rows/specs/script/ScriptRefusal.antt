-- The first refusal of a line, in the order of the table.
use Rattle.std.specs.Prelude.{ℕ, nat_lt, not, Bool, true, false, if◌then◌else◌, List, length, Option, Some, None, is_some}
use Rattle.hse_rows.specs.states.State.{State, store_named, store_of}
use Rattle.hse_rows.specs.transactions.Transaction.{TransactionState, active, committed, aborted, read_of}
use Rattle.hse_rows.specs.transactions.Timeline.{transaction_of, for_some}
use Rattle.hse_rows.specs.script.Cursor.{Direction, forward, backward, CursorState}
use Rattle.hse_rows.specs.rows.Job.{JobWish}
use Rattle.hse_rows.specs.machine.Replies.{Refusal, bad_line, name_used, no_name, ended_by, by_commit, by_abort, no_store, key_length, forward_only}
use Rattle.hse_rows.specs.machine.Calls.{outside, inside, Call}
use Rattle.hse_rows.specs.machine.Calls as call
use Rattle.hse_rows.specs.writes.Lengths.{longest_key}
use Rattle.hse_rows.specs.machine.Core.{Core, now}
use Rattle.hse_rows.specs.machine.CoreRefusal as core
use Rattle.hse_rows.specs.machine.CoreDone as done_by
use Rattle.hse_rows.specs.rows.Schedule.{next_wish}
use Rattle.hse_rows.specs.script.ScriptLines.{Who, nobody, someone, Line, begin, write_by, get, commit, abort, list_stores, tree, info, open_cursor, seek, seek_range, read, update, close_cursor, pick, build, drop_job, next_job, take, take_install, write_turn, end_turn, turn, job, auto, reopen, silent, bad}
use Rattle.hse_rows.specs.script.Script.{Script, order_of, is_begun, job_named, cursor_named}
use Rattle.hse_rows.specs.script.ScriptNames.{told}

-- this refusal where the test says so, and else what comes later
abbrev pub refuse : Bool → Refusal (List ℕ) → Option (Refusal (List ℕ)) → Option (Refusal (List ℕ))
refuse test refusal later = if test then Some refusal else later

-- what the core refuses
abbrev pub asked : Script → Call → Option (Refusal (List ℕ))
asked s call = told s (core.refusal s.core call)

-- ---- names

abbrev pub with_order : Script → List ℕ → (ℕ → Option (Refusal (List ℕ))) → Option (Refusal (List ℕ))
with_order s name later = for_some (order_of s name) (Some no_name) later

abbrev pub with_job : Script → List ℕ → (ℕ → Option (Refusal (List ℕ))) → Option (Refusal (List ℕ))
with_job s name later = for_some (job_named s name) (Some no_name) later

abbrev pub with_cursor : Script → List ℕ → (CursorState → Option (Refusal (List ℕ))) → Option (Refusal (List ℕ))
with_cursor s name later = for_some (cursor_named s name) (Some no_name) later

-- ---- cursors

abbrev pub unless_ended : TransactionState → Option (Refusal (List ℕ)) → Option (Refusal (List ℕ))
unless_ended active later = later
unless_ended (committed number) later = Some (ended_by by_commit)
unless_ended aborted later = Some (ended_by by_abort)

-- what the live transaction of this begin order reads
abbrev pub with_read : Script → ℕ → (State → Option (Refusal (List ℕ))) → Option (Refusal (List ℕ))
with_read s order later =
    for_some (transaction_of s.core.timeline order) (Some no_name) (λ transaction.
    unless_ended transaction.state (later (read_of s.core.timeline.base s.core.timeline.history transaction)))

-- what an actor reads
abbrev pub with_state : Script → Who → (State → Option (Refusal (List ℕ))) → Option (Refusal (List ℕ))
with_state s nobody later = later (now s.core)
with_state s (someone name) later = with_order s name (λ order. with_read s order later)

-- what the owner of a cursor reads
abbrev pub with_owner : Script → Option ℕ → (State → Option (Refusal (List ℕ))) → Option (Refusal (List ℕ))
with_owner s None later = later (now s.core)
with_owner s (Some order) later = with_read s order later

abbrev pub edge_refusal : List ℕ → Option (Refusal (List ℕ)) → Option (Refusal (List ℕ))
edge_refusal edge later = refuse (nat_lt longest_key (length edge)) (key_length (length edge)) later

abbrev pub is_backward : Direction → Bool
is_backward forward = false
is_backward backward = true

-- ---- the phases of a job in a row

-- the core after the job's pick and build
abbrev pub with_built : Core → JobWish → Core
with_built m wish = done_by.done (done_by.done m (call.pick wish)) (call.build m.picked)

abbrev pub or_later : Option (Refusal (List ℕ)) → Option (Refusal (List ℕ)) → Option (Refusal (List ℕ))
or_later None later = later
or_later (Some reason) later = Some reason

abbrev pub job_refusal : Script → JobWish → Option (Refusal (List ℕ))
job_refusal s wish =
    or_later (asked s (call.pick wish))
    (told s (core.refusal (with_built s.core wish) (call.take_install s.core.picked)))

-- ---- lines

abbrev pub refusal : Script → Line → Option (Refusal (List ℕ))
refusal s (begin name) = refuse (is_begun s name) name_used (asked s call.begin)
refusal s (write_by nobody store change) = asked s (call.write_by outside store change)
refusal s (write_by (someone name) store change) =
    with_order s name (λ order. asked s (call.write_by (inside order) store change))
refusal s (get nobody store key) = asked s (call.get outside store key)
refusal s (get (someone name) store key) = with_order s name (λ order. asked s (call.get (inside order) store key))
refusal s (commit name) = with_order s name (λ order. asked s (call.commit order))
refusal s (abort name) = with_order s name (λ order. asked s (call.abort order))
refusal s list_stores = None
refusal s (tree store) = asked s (call.tree store)
refusal s info = None
refusal s (open_cursor name who store direction filter) =
    refuse (is_some (cursor_named s name)) name_used
    (with_state s who (λ state.
    refuse (not (is_some (store_named state store))) no_store
    (edge_refusal filter (asked s call.take_place))))
refusal s (seek name key) = with_cursor s name (λ cursor. edge_refusal key None)
refusal s (seek_range name first last) =
    with_cursor s name (λ cursor.
    refuse (is_backward cursor.direction) forward_only (edge_refusal first (edge_refusal last None)))
refusal s (read name) = with_cursor s name (λ cursor. None)
refusal s (update name) =
    with_cursor s name (λ cursor.
    with_owner s cursor.owner (λ state. refuse (not (is_some (store_of state cursor.store))) no_store None))
refusal s (close_cursor name) = with_cursor s name (λ cursor. None)
refusal s (pick name wish) = refuse (is_some (job_named s name)) name_used (asked s (call.pick wish))
refusal s (build name) = with_job s name (λ id. asked s (call.build id))
refusal s (drop_job name) = with_job s name (λ id. asked s (call.drop_job id))
refusal s next_job = None
refusal s (take wish) = asked s (call.take wish)
refusal s (take_install name) = with_job s name (λ id. asked s (call.take_install id))
refusal s write_turn = asked s call.write_turn
refusal s end_turn = asked s call.end_turn
refusal s (turn wish) = asked s (call.take wish)
refusal s (job wish) = job_refusal s wish
refusal s auto = for_some (next_wish s.core) None (job_refusal s)
refusal s reopen = asked s call.reopen
refusal s silent = None
refusal s bad = Some bad_line
