-- Small cases of the causes of refusals, worked by hand: what transactions, turns, runs and cursors are refused for.
use Rattle.std.proofs.Common.{◌≡◌, ℕ, ◌+◌, nat_lt, List, [], ◌∷◌, length, map, Some, None, refl, ap}
use Rattle.std.specs.Prelude.{codes}
use Rattle.hse_rows.specs.declared.store.Mode.TheVariants.{Plain, Tx}
use Rattle.hse_rows.specs.declared.change.Change.TheVariants.{PDel}
use Rattle.hse_rows.specs.writes.NormalForm.{normal_form}
use Rattle.hse_rows.specs.rows.Newest.{newest}
use Rattle.hse_rows.specs.states.History.{new_store}
use Rattle.hse_rows.specs.machine.Log.{Numbered}
use Rattle.hse_rows.specs.script.Cursor.{forward}
use Rattle.hse_rows.specs.rows.Job.{ingest, of_run, keys, values, spill, picked}
use Rattle.hse_rows.specs.rows.Job as jobs
use Rattle.hse_rows.specs.machine.Turn.{sync, freeze, create, drop, syncing, freezing, creating, dropping, installing}
use Rattle.hse_rows.specs.machine.Replies.{accepted, ok, refused, name_used, no_name, ended_by, by_commit, by_abort, no_store, store_mode, key_length, prefix_length, broken, spent, busy, manifest_full, txn_size, log_full, log_busy, store_held, node_busy, no_run, job_state}
use Rattle.hse_rows.specs.writes.Lengths.{longest_key}
use Rattle.hse_rows.specs.machine.Core.{new_manifest}
use Rattle.hse_rows.specs.script.ScriptLines.{nobody, someone, begin, write_by, get, commit, abort, open_cursor, update, pick, build, drop_job, take, take_install, write_turn, end_turn, turn, job, reopen}
use Rattle.hse_rows.specs.script.Script.{Script}
use Rattle.hse_rows.specs.script.ScriptRefusal.{refusal, refuse, edge_refusal}
use Rattle.hse_rows.proofs.CaseLines.{loaded, failed, with_manifest}
use Rattle.hse_rows.proofs.RowCases.{device, started, led, answers, put_in, put_out, a, b, s, one}
use Rattle.hse_rows.proofs.PhaseCases.{install_taken}

-- ---- transactions

a_transaction_writes_no_plain_store :
    answers (started device) (turn (create s Plain 0) ∷ begin a ∷ put_in a s b one ∷ [])
    ≡ ok 1 ∷ ok 1 ∷ refused store_mode ∷ []
a_transaction_writes_no_plain_store = refl

a_store_of_the_snapshot_may_be_gone :
    answers (started device)
    (turn (create s Tx 0) ∷ begin a ∷ turn (drop s) ∷ put_in a s b one ∷ turn (create s Tx 0) ∷ put_in a s b one ∷ begin b
    ∷ put_in b s b one ∷ [])
    ≡ ok 1 ∷ ok 1 ∷ ok 2 ∷ refused no_store ∷ ok 3 ∷ refused no_store ∷ ok 3 ∷ accepted ∷ []
unfolding normal_form
a_store_of_the_snapshot_may_be_gone = refl

a_later_store_is_not_in_the_snapshot :
    answers (started device) (begin a ∷ turn (create s Tx 0) ∷ put_in a s b one ∷ [])
    ≡ ok 0 ∷ ok 1 ∷ refused no_store ∷ []
a_later_store_is_not_in_the_snapshot = refl

-- one put is charged 12 + 17 + 32, and two keys 12 + 2 * 17 + 32
a_transaction_has_a_segment_s_room :
    answers (started (record device { segment_size = 64 + 77 }))
    (turn (create s Tx 0) ∷ begin a ∷ put_in a s a one ∷ put_in a s b one ∷ put_in a s a b ∷ commit a ∷ [])
    ≡ ok 1 ∷ ok 1 ∷ accepted ∷ refused (txn_size 78 77) ∷ accepted ∷ ok 2 ∷ []
unfolding normal_form
a_transaction_has_a_segment_s_room = refl

-- of 100 bytes a put outside takes 61, and what freezes starts a segment
a_commit_may_find_the_segment_full :
    answers (started (record device { segment_size = 64 + 100 }))
    (turn (create s Tx 0) ∷ turn (create b Plain 0) ∷ begin a ∷ put_in a s a one ∷ put_out b a one ∷ commit a ∷ turn freeze
    ∷ commit a ∷ [])
    ≡ ok 1 ∷ ok 2 ∷ ok 2 ∷ accepted ∷ ok 3 ∷ refused (log_full 61 39) ∷ ok 3 ∷ ok 4 ∷ []
unfolding normal_form
a_commit_may_find_the_segment_full = refl

-- a `tx` store and a `plain` one, one number before the last
abbrev near_the_last : Script
near_the_last =
    loaded device
    (record { number = 4611686018427387903; stores = new_store 1 s Tx 0 ∷ new_store 2 b Plain 0 ∷ [] })
    (record { horizon = 0; first_segment = 1; frozen = []; active = [] }) new_manifest

no_commit_follows_the_last_number :
    answers near_the_last
    (begin a ∷ begin (codes "c") ∷ put_in a s a one ∷ put_out b a one ∷ commit a ∷ begin b ∷ commit (codes "c") ∷ [])
    ≡ ok 4611686018427387903 ∷ ok 4611686018427387903 ∷ accepted ∷ ok 4611686018427387904 ∷ refused spent ∷ refused spent
    ∷ ok 4611686018427387903 ∷ []
unfolding normal_form
no_commit_follows_the_last_number = refl

-- a transaction with a change and one without, then a device fault
abbrev broken_within : Script
broken_within = failed (led (started device) (turn (create s Tx 0) ∷ begin a ∷ begin b ∷ put_in a s a one ∷ []))

a_broken_engine_commits_no_change :
    answers broken_within (put_in a s b one ∷ commit a ∷ commit b ∷ begin b ∷ abort a ∷ [])
    ≡ refused broken ∷ refused broken ∷ ok 1 ∷ ok 1 ∷ accepted ∷ []
unfolding normal_form
a_broken_engine_commits_no_change = refl

an_ended_one_is_told_how_it_ended :
    answers (started device)
    (begin a ∷ begin b ∷ commit a ∷ abort b ∷ commit a ∷ abort b ∷ abort a ∷ commit b ∷ abort (codes "c") ∷ [])
    ≡ ok 0 ∷ ok 0 ∷ ok 0 ∷ accepted ∷ refused (ended_by by_commit) ∷ refused (ended_by by_abort) ∷ refused (ended_by by_commit)
    ∷ refused (ended_by by_abort) ∷ refused no_name ∷ []
an_ended_one_is_told_how_it_ended = refl

a_store_without_prefixes_takes_no_prefix_delete :
    answers (started device) (turn (create s Plain 0) ∷ write_by nobody s (PDel a) ∷ write_by nobody s (PDel []) ∷ [])
    ≡ ok 1 ∷ refused (prefix_length 1) ∷ refused (prefix_length 0) ∷ []
a_store_without_prefixes_takes_no_prefix_delete = refl

the_first_begun_holds_the_store :
    answers (started device)
    (turn (create s Tx 0) ∷ begin a ∷ begin b ∷ put_in b s a one ∷ turn (drop s) ∷ put_in a s b one ∷ turn (drop s) ∷ commit a
    ∷ turn (drop s) ∷ abort b ∷ turn (drop s) ∷ [])
    ≡ ok 1 ∷ ok 1 ∷ ok 1 ∷ accepted ∷ refused (store_held b) ∷ accepted ∷ refused (store_held a) ∷ ok 2
    ∷ refused (store_held b) ∷ accepted ∷ ok 3 ∷ []
unfolding normal_form
the_first_begun_holds_the_store = refl

-- ---- turns

each_turn_keeps_others_away :
    map
    (λ wish. refusal (led (started device) (turn (create s Plain 0) ∷ put_out s a one ∷ take wish ∷ [])) (turn sync))
    (sync ∷ freeze ∷ create b Plain 0 ∷ drop s ∷ [])
    ≡ Some (busy syncing) ∷ Some (busy freezing) ∷ Some (busy creating) ∷ Some (busy dropping) ∷ []
unfolding normal_form
each_turn_keeps_others_away = refl

an_install_keeps_all_turns_away :
    map (refusal install_taken) (turn sync ∷ turn freeze ∷ turn (create b Plain 0) ∷ reopen ∷ put_out s a one ∷ [])
    ≡ Some (busy installing) ∷ Some (busy installing) ∷ Some (busy installing) ∷ Some (busy installing) ∷ None ∷ []
unfolding normal_form newest
an_install_keeps_all_turns_away = refl

-- it stays out until its end
a_written_turn_keeps_others_away :
    map (refusal (led install_taken (write_turn ∷ []))) (turn sync ∷ take_install (codes "j") ∷ end_turn ∷ [])
    ≡ Some (busy installing) ∷ Some (job_state jobs.installing) ∷ None ∷ []
unfolding normal_form newest
a_written_turn_keeps_others_away = refl

-- a store s and a log of so many commits, at this segment
abbrev at_segment : ℕ → List Numbered → Script
at_segment segment active =
    loaded device (record { number = 2; stores = new_store 1 s Plain 0 ∷ [] })
    (record { horizon = 0; first_segment = segment; frozen = []; active = active }) new_manifest

no_segment_follows_the_last :
    refusal (at_segment 4611686018427387904 (record { number = 2; writes = [] } ∷ [])) (turn freeze)
    ≡ Some log_busy
no_segment_follows_the_last = refl

one_follows_that_before_it :
    refusal (at_segment 4611686018427387903 (record { number = 2; writes = [] } ∷ [])) (turn freeze)
    ≡ None
one_follows_that_before_it = refl

an_empty_layer_needs_none : refusal (at_segment 4611686018427387904 []) (turn freeze) ≡ None
an_empty_layer_needs_none = refl

-- ---- jobs

-- a root with one set
abbrev of_one_set : Script
of_one_set = led (started device) (turn (create s Plain 1) ∷ put_out s a one ∷ turn freeze ∷ job ingest ∷ [])

a_run_is_of_the_sets_that_are_there :
    answers of_one_set
    (job (of_run keys s [] 0 2) ∷ job (of_run values s [] 1 1) ∷ job (of_run values s [] 0 0) ∷ job (of_run values s (1 ∷ []) 0 1)
    ∷ job (of_run keys s [] 0 1) ∷ job ingest ∷ [])
    ≡ refused (no_run 1) ∷ refused (no_run 1) ∷ refused (no_run 1) ∷ refused (no_run 0) ∷ ok 1 ∷ refused (no_run 0) ∷ []
unfolding normal_form newest
a_run_is_of_the_sets_that_are_there = refl

abbrev of_two_sets : Script
of_two_sets = led of_one_set (put_out s b one ∷ turn freeze ∷ job ingest ∷ [])

a_spill_has_the_oldest_set :
    answers of_two_sets (job (of_run spill s [] 0 1) ∷ job (of_run spill s [] 1 1) ∷ job (of_run spill s [] 0 1) ∷ [])
    ≡ refused (no_run 2) ∷ ok 2 ∷ ok 2 ∷ []
unfolding normal_form newest
a_spill_has_the_oldest_set = refl

a_node_has_one_job :
    answers of_one_set
    (pick (codes "j") (of_run keys s [] 0 1) ∷ pick (codes "i") (of_run values s [] 0 1) ∷ job (of_run spill s [] 0 1)
    ∷ pick (codes "j") (of_run values s [] 0 1) ∷ turn (drop s) ∷ pick (codes "i") (of_run keys s (1 ∷ []) 0 1) ∷ drop_job (codes "j")
    ∷ pick (codes "i") (of_run values s [] 0 1) ∷ [])
    ≡ accepted ∷ refused (node_busy (codes "j")) ∷ refused (node_busy (codes "j"))
    ∷ refused name_used ∷ refused (node_busy (codes "j")) ∷ refused (no_run 0) ∷ accepted ∷ accepted ∷ []
unfolding normal_form newest
a_node_has_one_job = refl

-- one set at the root and one at a child, each with a job
abbrev of_two_jobs : Script
of_two_jobs =
    led of_two_sets
    (job (of_run spill s [] 1 1) ∷ pick (codes "j") (of_run values s (1 ∷ []) 0 1) ∷ pick (codes "i") (of_run keys s [] 0 1) ∷ [])

a_drop_tells_the_first_picked_job :
    answers of_two_jobs (turn (drop s) ∷ drop_job (codes "j") ∷ turn (drop s) ∷ drop_job (codes "i") ∷ turn (drop s) ∷ [])
    ≡ refused (node_busy (codes "j")) ∷ accepted ∷ refused (node_busy (codes "i")) ∷ accepted ∷ ok 4 ∷ []
unfolding normal_form newest
a_drop_tells_the_first_picked_job = refl

and_an_ingest_before_it :
    answers of_two_jobs (put_out s a one ∷ turn freeze ∷ pick (codes "k") ingest ∷ turn (drop s) ∷ pick (codes "l") ingest ∷ [])
    ≡ ok 4 ∷ ok 4 ∷ accepted ∷ refused (node_busy (codes "k")) ∷ refused (node_busy (codes "k")) ∷ []
unfolding normal_form newest
and_an_ingest_before_it = refl

a_broken_engine_has_no_jobs :
    answers (failed of_two_jobs)
    (pick (codes "k") ingest ∷ pick (codes "k") (of_run keys s (2 ∷ []) 0 1) ∷ build (codes "j") ∷ take_install (codes "j") ∷ drop_job (codes "j")
    ∷ turn freeze ∷ [])
    ≡ refused broken ∷ refused broken ∷ refused broken ∷ refused (job_state picked) ∷ accepted ∷ refused broken ∷ []
unfolding normal_form newest
a_broken_engine_has_no_jobs = refl

-- a full last half: the whole state after the ingest takes 5 + 25 + 16 + 5 + 20 bytes
an_install_needs_room_in_the_manifest :
    answers
    (with_manifest (led (started device) (turn (create s Plain 1) ∷ put_out s a one ∷ turn freeze ∷ []))
    (record { sequence = 4611686018427387904; used = 65536; taken = 1 ∷ [] }))
    (job ingest ∷ [])
    ≡ refused (manifest_full 71 65526) ∷ []
unfolding normal_form newest
an_install_needs_room_in_the_manifest = refl

-- ---- cursors

a_filter_has_1344_bytes_at_most :
    (filter : List ℕ) → length filter ≡ 1345 → edge_refusal filter None
    ≡ Some (key_length 1345)
a_filter_has_1344_bytes_at_most filter long =
    ap (λ (n : ℕ). refuse (nat_lt longest_key n) (key_length n) None) long

a_filter_of_1344_bytes_is_taken : (filter : List ℕ) → length filter ≡ 1344 → edge_refusal filter None ≡ None
a_filter_of_1344_bytes_is_taken filter long =
    ap (λ (n : ℕ). refuse (nat_lt longest_key n) (key_length n) None) long

a_cursor_is_updated_while_store_and_transaction_live :
    answers (started device)
    (turn (create s Tx 0) ∷ begin a ∷ open_cursor a (someone a) s forward [] ∷ open_cursor b nobody s forward []
    ∷ open_cursor (codes "c") (someone b) s forward [] ∷ abort a ∷ begin a ∷ update a ∷ update b ∷ turn (drop s) ∷ update b
    ∷ update (codes "c") ∷ [])
    ≡ ok 1 ∷ ok 1 ∷ accepted ∷ accepted ∷ refused no_name ∷ accepted ∷ ok 1 ∷ refused (ended_by by_abort) ∷ accepted ∷ ok 2
    ∷ refused no_store ∷ refused no_name ∷ []
a_cursor_is_updated_while_store_and_transaction_live = refl

a_get_is_refused_as_its_transaction_is :
    map (refusal (led (started device) (turn (create s Tx 0) ∷ begin a ∷ begin b ∷ abort b ∷ [])))
    (get (someone (codes "c")) s a ∷ get (someone b) s a ∷ get (someone a) b a ∷ get (someone a) s [] ∷ get (someone a) s a ∷ [])
    ≡ Some no_name ∷ Some (ended_by by_abort) ∷ Some no_store ∷ Some (key_length 0) ∷ None ∷ []
a_get_is_refused_as_its_transaction_is = refl
