-- Refusals and answers with names in place of begin orders and ids.
use Rattle.std.specs.Prelude.{ℕ, List, Option, Some, None}
use Rattle.hse_rows.specs.machine.Replies.{Refusal, bad_line, name_used, no_name, ended_by, store_exists, no_store, store_mode, key_length, value_length, prefix_length, broken, too_many, spent, busy, turn_is, manifest_full, txn_size, log_full, full, log_busy, store_held, node_busy, canceled_held, canceled_since, forward_only, depth, no_run, job_state, not_formed, other_version, Answer, silence, accepted, ok, written, value, none, at_key, pair, at_end, listed, sets, figures, pick_next, refused, no_memory, device_fault}
use Rattle.hse_rows.specs.script.Script.{Script, name_at}

abbrev pub refusal_named : Script → Refusal ℕ → Refusal (List ℕ)
refusal_named s bad_line = bad_line
refusal_named s name_used = name_used
refusal_named s no_name = no_name
refusal_named s (ended_by how) = ended_by how
refusal_named s store_exists = store_exists
refusal_named s no_store = no_store
refusal_named s store_mode = store_mode
refusal_named s (key_length given) = key_length given
refusal_named s (value_length given) = value_length given
refusal_named s (prefix_length given) = prefix_length given
refusal_named s broken = broken
refusal_named s (too_many limit) = too_many limit
refusal_named s spent = spent
refusal_named s (busy kind) = busy kind
refusal_named s (turn_is phase) = turn_is phase
refusal_named s (manifest_full need room) = manifest_full need room
refusal_named s (txn_size need room) = txn_size need room
refusal_named s (log_full need room) = log_full need room
refusal_named s (full need free) = full need free
refusal_named s log_busy = log_busy
refusal_named s (store_held who) = store_held (name_at s.begun_names who)
refusal_named s (node_busy who) = node_busy (name_at s.picked_names who)
refusal_named s (canceled_held who) = canceled_held (name_at s.begun_names who)
refusal_named s (canceled_since number) = canceled_since number
refusal_named s forward_only = forward_only
refusal_named s (depth limit) = depth limit
refusal_named s (no_run have) = no_run have
refusal_named s (job_state state) = job_state state
refusal_named s (not_formed part place) = not_formed part place
refusal_named s (other_version version) = other_version version

abbrev pub told : Script → Option (Refusal ℕ) → Option (Refusal (List ℕ))
told s None = None
told s (Some reason) = Some (refusal_named s reason)

abbrev pub answer_named : Script → Answer ℕ → Answer (List ℕ)
answer_named s silence = silence
answer_named s accepted = accepted
answer_named s (ok number) = ok number
answer_named s written = written
answer_named s (value bytes) = value bytes
answer_named s none = none
answer_named s (at_key key) = at_key key
answer_named s (pair key bytes) = pair key bytes
answer_named s at_end = at_end
answer_named s (listed stores) = listed stores
answer_named s (sets told) = sets told
answer_named s (figures told) = figures told
answer_named s (pick_next wish) = pick_next wish
answer_named s (refused reason) = refused (refusal_named s reason)
answer_named s no_memory = no_memory
answer_named s device_fault = device_fault
