-- What a line is answered that nothing refuses, and where it leads.
use Rattle.std.specs.Prelude.{ℕ, ◌+◌, if◌then◌else◌, List, [], ◌∷◌, ◌++◌, Option, Some, None, is_some}
use Rattle.hse_rows.specs.states.State.{State, Store, store_named, store_of}
use Rattle.hse_rows.specs.transactions.Transaction.{read_of}
use Rattle.hse_rows.specs.transactions.Timeline.{transaction_of, for_some}
use Rattle.hse_rows.specs.script.Cursor.{Direction, front, CursorState, Pair, read_by, after_read, sought, sought_range, found_by, updated}
use Rattle.hse_rows.specs.rows.Job.{JobWish}
use Rattle.hse_rows.specs.machine.Replies.{Answer, silence, accepted, at_key, pair, at_end, none}
use Rattle.hse_rows.specs.machine.Calls.{outside, inside, Call}
use Rattle.hse_rows.specs.machine.Calls as call
use Rattle.hse_rows.specs.machine.Core.{Core, now}
use Rattle.hse_rows.specs.machine.CoreReply as replied
use Rattle.hse_rows.specs.machine.CoreDone as core
use Rattle.hse_rows.specs.rows.Schedule.{next_wish}
use Rattle.hse_rows.specs.script.ScriptLines.{Who, nobody, someone, Line, begin, write_by, get, commit, abort, list_stores, tree, info, open_cursor, seek, seek_range, read, update, close_cursor, pick, build, drop_job, next_job, take, take_install, write_turn, end_turn, turn, job, auto, reopen, silent, bad}
use Rattle.hse_rows.specs.script.Script.{Script, order_of, job_named, cursor_named, with_cursor, without_cursor}
use Rattle.hse_rows.specs.script.ScriptNames.{answer_named}
use Rattle.hse_rows.specs.script.ScriptRefusal.{asked, with_built}

-- ---- the phases of a turn in a row

-- the core when the turn of this call has made its device calls
abbrev pub ran : Core → Call → Core
ran m take_call = core.done (core.done m take_call) call.write_turn

abbrev pub turned : Core → Call → Core
turned m take_call = core.done (ran m take_call) call.end_turn

-- where a device call failed, the end gives the turn back all the same
abbrev pub turn_failed : Core → Call → Core
turn_failed m take_call = core.refused_to (core.failing (core.done m take_call) call.write_turn) call.end_turn

abbrev pub turn_reply : Core → Call → Answer ℕ
turn_reply m take_call = replied.reply (ran m take_call) call.end_turn

-- ---- replies

abbrev pub answered : Script → Call → Answer (List ℕ)
answered s call = answer_named s (replied.reply s.core call)

abbrev pub in_order : Script → List ℕ → (ℕ → Answer (List ℕ)) → Answer (List ℕ)
in_order s name later = for_some (order_of s name) accepted later

abbrev pub of_job : Script → List ℕ → (ℕ → Answer (List ℕ)) → Answer (List ℕ)
of_job s name later = for_some (job_named s name) accepted later

abbrev pub key_reply : Option (List ℕ) → Answer (List ℕ)
key_reply None = at_end
key_reply (Some key) = at_key key

abbrev pub pair_reply : Option Pair → Answer (List ℕ)
pair_reply None = at_end
pair_reply (Some found) = pair found.0 found.1

abbrev pub of_cursor : Script → List ℕ → (CursorState → Answer (List ℕ)) → Answer (List ℕ)
of_cursor s name later = for_some (cursor_named s name) accepted later

abbrev pub job_reply : Script → JobWish → Answer (List ℕ)
job_reply s wish = answer_named s (turn_reply (with_built s.core wish) (call.take_install s.core.picked))

abbrev pub reply : Script → Line → Answer (List ℕ)
reply s (begin name) = answered s call.begin
reply s (write_by nobody store change) = answered s (call.write_by outside store change)
reply s (write_by (someone name) store change) =
    in_order s name (λ order. answered s (call.write_by (inside order) store change))
reply s (get nobody store key) = answered s (call.get outside store key)
reply s (get (someone name) store key) = in_order s name (λ order. answered s (call.get (inside order) store key))
reply s (commit name) = in_order s name (λ order. answered s (call.commit order))
reply s (abort name) = accepted
reply s list_stores = answered s call.list_stores
reply s (tree store) = answered s (call.tree store)
reply s info = answered s call.info
reply s (open_cursor name who store direction filter) = accepted
reply s (seek name key) = of_cursor s name (λ cursor. key_reply (found_by (sought cursor key)))
reply s (seek_range name first last) = of_cursor s name (λ cursor. key_reply (found_by (sought_range cursor first last)))
reply s (read name) = of_cursor s name (λ cursor. pair_reply (read_by cursor))
reply s (update name) = accepted
reply s (close_cursor name) = accepted
reply s (pick name wish) = accepted
reply s (build name) = of_job s name (λ id. answered s (call.build id))
reply s (drop_job name) = accepted
reply s next_job = answered s call.next_job
reply s (take wish) = accepted
reply s (take_install name) = accepted
reply s write_turn = answered s call.write_turn
reply s end_turn = answered s call.end_turn
reply s (turn wish) = answer_named s (turn_reply s.core (call.take wish))
reply s (job wish) = job_reply s wish
reply s auto = for_some (next_wish s.core) none (job_reply s)
reply s reopen = accepted
reply s silent = silence
reply s bad = silence

-- ---- where a line leads

abbrev pub with_core : Script → Core → Script
with_core s core = record s { core = core }

abbrev pub called : Script → Call → Script
called s call = with_core s (core.done s.core call)

abbrev pub at_order : Script → List ℕ → (ℕ → Call) → Script
at_order s name call_of = for_some (order_of s name) s (λ order. called s (call_of order))

abbrev pub at_job : Script → List ℕ → (ℕ → Call) → Script
at_job s name call_of = for_some (job_named s name) s (λ id. called s (call_of id))

-- a cursor that stands before all pairs of a store
abbrev pub new_cursor : Option ℕ → Store → Direction → List ℕ → CursorState
new_cursor owner store direction filter = record {
  owner = owner;
  store = store.id;
  direction = direction;
  prefix = filter;
  contents = store.contents;
  position = front;
  last = None;
}

abbrev pub with_new_cursor : Script → List ℕ → CursorState → Script
with_new_cursor s name cursor =
    record (called s call.take_place) { cursors = s.cursors ++ record { name = name; cursor = cursor } ∷ [] }

-- what the transaction of this begin order reads
abbrev pub for_read : {X : Type 0} → Script → ℕ → X → (State → X) → X
for_read s order otherwise of_state =
    for_some (transaction_of s.core.timeline order) otherwise (λ transaction.
    of_state (read_of s.core.timeline.base s.core.timeline.history transaction))

abbrev pub opening_cursor : Script → List ℕ → Who → List ℕ → Direction → List ℕ → Script
opening_cursor s name nobody store direction filter =
    for_some (store_named (now s.core) store) s (λ found.
    with_new_cursor s name (new_cursor None found direction filter))
opening_cursor s name (someone transaction) store direction filter =
    for_some (order_of s transaction) s (λ order.
    for_read s order s (λ state.
    for_some (store_named state store) s (λ found.
    with_new_cursor s name (new_cursor (Some order) found direction filter))))

abbrev pub moving_cursor : Script → List ℕ → (CursorState → CursorState) → Script
moving_cursor s name moved =
    for_some (cursor_named s name) s (λ cursor. record s { cursors = with_cursor s.cursors name (moved cursor) })

-- a cursor with what the state holds of its store
abbrev pub updated_by : State → CursorState → CursorState
updated_by state cursor =
    for_some (store_of state cursor.store) cursor (λ store. updated cursor store.contents)

abbrev pub updated_for : Script → Option ℕ → CursorState → CursorState
updated_for s None cursor = updated_by (now s.core) cursor
updated_for s (Some order) cursor = for_read s order cursor (λ state. updated_by state cursor)

-- the names once one job more was picked
abbrev pub with_picked_name : Script → List ℕ → Script
with_picked_name s name = record s { picked_names = s.picked_names ++ name ∷ [] }

-- the phases of a job in a row
abbrev pub job_done : Script → JobWish → Script
job_done s wish = with_picked_name (with_core s (turned (with_built s.core wish) (call.take_install s.core.picked))) []

abbrev pub job_failed : Script → JobWish → Script
job_failed s wish = with_picked_name (with_core s (turn_failed (with_built s.core wish) (call.take_install s.core.picked))) []

-- a job that the line picked is gone again: its id and its place among the names stay used
abbrev pub once_picked : Script → Script
once_picked s = with_picked_name (with_core s (record s.core { picked = s.core.picked + 1 })) []

-- a job that is refused, by its pick or later
abbrev pub job_refused : Script → JobWish → Script
job_refused s wish = if is_some (asked s (call.pick wish)) then s else once_picked s

-- that nothing refuses
abbrev pub done : Script → Line → Script
done s (begin name) = record (called s call.begin) { begun_names = s.begun_names ++ name ∷ [] }
done s (write_by nobody store change) = called s (call.write_by outside store change)
done s (write_by (someone name) store change) = at_order s name (λ order. call.write_by (inside order) store change)
done s (get who store key) = s
done s (commit name) = at_order s name call.commit
done s (abort name) = at_order s name call.abort
done s list_stores = s
done s (tree store) = s
done s info = s
done s (open_cursor name who store direction filter) = opening_cursor s name who store direction filter
done s (seek name key) = moving_cursor s name (λ cursor. sought cursor key)
done s (seek_range name first last) = moving_cursor s name (λ cursor. sought_range cursor first last)
done s (read name) = moving_cursor s name after_read
done s (update name) = moving_cursor s name (λ cursor. updated_for s cursor.owner cursor)
done s (close_cursor name) = record (called s call.give_place) { cursors = without_cursor s.cursors name }
done s (pick name wish) = with_picked_name (called s (call.pick wish)) name
done s (build name) = at_job s name call.build
done s (drop_job name) = at_job s name call.drop_job
done s next_job = s
done s (take wish) = called s (call.take wish)
done s (take_install name) = at_job s name call.take_install
done s write_turn = called s call.write_turn
done s end_turn = called s call.end_turn
done s (turn wish) = with_core s (turned s.core (call.take wish))
done s (job wish) = job_done s wish
done s auto = for_some (next_wish s.core) s (job_done s)
done s reopen = s
done s silent = s
done s bad = s

-- A refusal changes nothing, but that an end gives a turn back whose device calls failed, and that a job was picked.
abbrev pub refused_to : Script → Line → Script
refused_to s end_turn = with_core s (core.refused_to s.core call.end_turn)
refused_to s (job wish) = job_refused s wish
refused_to s auto = for_some (next_wish s.core) s (job_refused s)
refused_to s line = s

-- a device call failed
abbrev pub failing : Script → Line → Script
failing s (turn wish) = with_core s (turn_failed s.core (call.take wish))
failing s (job wish) = job_failed s wish
failing s auto = for_some (next_wish s.core) s (job_failed s)
failing s write_turn = with_core s (core.failing s.core call.write_turn)
failing s line = with_core s (core.failing s.core call.reopen)
