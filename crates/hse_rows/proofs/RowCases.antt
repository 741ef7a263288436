-- Whole scripts with their replies, worked by hand. What a key holds does not compute and is read by the laws.
use Rattle.std.proofs.Common.{◌≡◌, ℕ, List, [], ◌∷◌, refl}
use Rattle.std.specs.Prelude.{codes}
use Rattle.hse_rows.specs.declared.store.Mode.TheVariants.{Plain, Tx}
use Rattle.hse_rows.specs.declared.change.Change.TheVariants.{Put, Del, PDel}
use Rattle.hse_rows.specs.writes.NormalForm.{normal_form}
use Rattle.hse_rows.specs.rows.Newest.{newest}
use Rattle.hse_rows.specs.machine.Sizes.{Sizes}
use Rattle.hse_rows.specs.rows.Job.{ingest, of_run, keys, values, spill, picked, installing}
use Rattle.hse_rows.specs.machine.Turn.{syncing, sync, freeze, create, drop, is_home, is_taken}
use Rattle.hse_rows.specs.machine.Replies.{Answer, accepted, ok, written, none, listed, sets, figures, pick_next, refused, name_used, no_name, ended_by, by_commit, store_exists, no_store, prefix_length, too_many, busy, turn_is, full, log_busy, store_held, node_busy, canceled_held, canceled_since, no_run, job_state}
use Rattle.hse_rows.specs.machine.Core.{formatted, life}
use Rattle.hse_rows.specs.machine.CoreStep.{Found, has_version}
use Rattle.hse_rows.specs.script.ScriptLines.{nobody, someone, Line, begin, write_by, commit, abort, list_stores, tree, info, pick, build, drop_job, next_job, take, take_install, write_turn, end_turn, turn, job, auto}
use Rattle.hse_rows.specs.script.Script.{Script, begins_with}
use Rattle.hse_rows.specs.script.ScriptStep.{answer_of, led_to}

-- 64 slots of 65,536 bytes, halves of 65,536 and segments of 262,144
abbrev pub device : Sizes
device = record { slot_size = 65536; slots = 64; half_size = 65536; segment_size = 262144; most_stores = 256 }

abbrev pub started : Sizes → Script
started sizes = begins_with (life (formatted sizes))

-- no script here reopens
abbrev pub nothing : Found
nothing = has_version 0

abbrev pub led : Script → List Line → Script
led s [] = s
led s (line ∷ lines) = led (led_to nothing s line (answer_of nothing s line)) lines

abbrev pub answers : Script → List Line → List (Answer (List ℕ))
answers s [] = []
answers s (line ∷ lines) = answer_of nothing s line ∷ answers (led_to nothing s line (answer_of nothing s line)) lines

-- ---- lines

abbrev pub put_in : List ℕ → List ℕ → List ℕ → List ℕ → Line
put_in name store key bytes = write_by (someone name) store (Put key bytes)

abbrev pdel_in : List ℕ → List ℕ → List ℕ → Line
pdel_in name store prefix = write_by (someone name) store (PDel prefix)

abbrev pub put_out : List ℕ → List ℕ → List ℕ → Line
put_out store key bytes = write_by nobody store (Put key bytes)

abbrev pub a : List ℕ
a = codes "a"

abbrev pub b : List ℕ
b = codes "b"

abbrev pub s : List ℕ
s = codes "s"

abbrev pub one : List ℕ
one = codes "1"

-- ---- transactions

a_transaction_commits :
    answers (started device)
    (turn (create (codes "acct") Tx 0) ∷ begin (codes "t") ∷ put_in (codes "t") (codes "acct") (codes "k") (codes "v")
    ∷ commit (codes "t") ∷ turn sync ∷ [])
    ≡ ok 1 ∷ ok 1 ∷ accepted ∷ ok 2 ∷ ok 2 ∷ []
unfolding normal_form
a_transaction_commits = refl

the_first_writer_wins :
    answers (started device)
    (turn (create s Tx 0) ∷ begin a ∷ begin b ∷ put_in a s (codes "k") one ∷ put_in b s (codes "k") one ∷ commit a
    ∷ put_in b s (codes "k") one ∷ begin (codes "c") ∷ put_in (codes "c") s (codes "k") one ∷ commit (codes "c") ∷ commit b ∷ [])
    ≡ ok 1 ∷ ok 1 ∷ ok 1 ∷ accepted ∷ refused (canceled_held a) ∷ ok 2
    ∷ refused (canceled_since 2) ∷ ok 2 ∷ accepted ∷ ok 3 ∷ ok 1 ∷ []
unfolding normal_form
the_first_writer_wins = refl

prefixes_of_any_length_conflict :
    answers (started device)
    (turn (create s Tx 3) ∷ begin a ∷ begin b ∷ put_in a s (codes "abc") one ∷ pdel_in b s a ∷ pdel_in b s b
    ∷ pdel_in a s (codes "bc") ∷ put_in a s b one ∷ pdel_in a s [] ∷ pdel_in a s (codes "abcd") ∷ commit a ∷ commit b ∷ [])
    ≡ ok 1 ∷ ok 1 ∷ ok 1 ∷ accepted ∷ refused (canceled_held a) ∷ accepted
    ∷ refused (canceled_held b) ∷ refused (canceled_held b) ∷ refused (prefix_length 0) ∷ refused (prefix_length 4) ∷ ok 2 ∷ ok 3 ∷ []
unfolding normal_form
prefixes_of_any_length_conflict = refl

a_key_of_another_s_prefix_is_held :
    answers (started device)
    (turn (create s Tx 2) ∷ begin a ∷ begin b ∷ put_in a s (codes "abc") one ∷ pdel_in b s (codes "ab") ∷ put_in b s a one
    ∷ pdel_in a s (codes "ab") ∷ put_in b s (codes "abd") one ∷ pdel_in a s (codes "abc") ∷ commit a ∷ commit b ∷ [])
    ≡ ok 1 ∷ ok 1 ∷ ok 1 ∷ accepted ∷ refused (canceled_held a) ∷ accepted
    ∷ accepted ∷ refused (canceled_held a) ∷ refused (prefix_length 3) ∷ ok 2 ∷ ok 3 ∷ []
unfolding normal_form
a_key_of_another_s_prefix_is_held = refl

a_name_means_the_last_one :
    answers (started device)
    (turn (create s Tx 0) ∷ begin a ∷ put_in a s b one ∷ commit a ∷ put_in a s b one ∷ begin a ∷ begin a ∷ commit b ∷ commit a ∷ commit a ∷ [])
    ≡ ok 1 ∷ ok 1 ∷ accepted ∷ ok 2 ∷ refused (ended_by by_commit) ∷ ok 2 ∷ refused name_used ∷ refused no_name ∷ ok 2
    ∷ refused (ended_by by_commit) ∷ []
unfolding normal_form
a_name_means_the_last_one = refl

-- ---- stores

a_held_store_stays :
    answers (started device)
    (turn (create s Tx 0) ∷ turn (create s Tx 0) ∷ begin a ∷ put_in a s b one ∷ turn (drop s) ∷ abort a ∷ turn (drop s)
    ∷ write_by nobody s (Del b) ∷ turn (create s Plain 33) ∷ turn (create s Plain 4) ∷ list_stores ∷ put_out s b one
    ∷ write_by nobody s (PDel (codes "abcd")) ∷ [])
    ≡ ok 1 ∷ refused store_exists ∷ ok 1 ∷ accepted ∷ refused (store_held a) ∷ accepted ∷ ok 2
    ∷ refused no_store ∷ refused (prefix_length 33) ∷ ok 3
    ∷ listed (record { name = s; mode = Plain; prefix_length = 4 } ∷ []) ∷ ok 4 ∷ ok 5 ∷ []
unfolding normal_form
a_held_store_stays = refl

a_device_may_take_one_store :
    answers (started (record device { most_stores = 1 })) (turn (create a Tx 0) ∷ turn (create b Tx 0) ∷ [])
    ≡ ok 1 ∷ refused (too_many 1) ∷ []
a_device_may_take_one_store = refl

-- ---- phases

lines_go_on_between_phases :
    answers (started device)
    (turn (create s Plain 0) ∷ put_out s a one ∷ end_turn ∷ take sync ∷ put_out s b one ∷ turn sync ∷ end_turn ∷ write_turn ∷ end_turn ∷ [])
    ≡ ok 1 ∷ ok 2 ∷ refused (turn_is is_home) ∷ accepted ∷ ok 3 ∷ refused (busy syncing) ∷ refused (turn_is is_taken) ∷ written ∷ ok 2 ∷ []
unfolding normal_form
lines_go_on_between_phases = refl

three_segments_may_be_frozen :
    answers (started device)
    (turn (create s Plain 0) ∷ put_out s a one ∷ turn freeze ∷ put_out s b one ∷ turn freeze ∷ put_out s (codes "c") one ∷ turn freeze
    ∷ put_out s (codes "d") one ∷ turn freeze ∷ job ingest ∷ turn freeze ∷ turn freeze ∷ [])
    ≡ ok 1 ∷ ok 2 ∷ ok 2 ∷ ok 3 ∷ ok 3 ∷ ok 4 ∷ ok 4 ∷ ok 5 ∷ refused log_busy ∷ ok 2 ∷ ok 5 ∷ ok 5 ∷ []
unfolding normal_form newest
three_segments_may_be_frozen = refl

-- ---- jobs

an_ingest_in_its_phases :
    answers (started device)
    (turn (create s Plain 0) ∷ put_out s a one ∷ next_job ∷ turn freeze ∷ next_job ∷ pick (codes "j") ingest
    ∷ take_install (codes "j") ∷ pick (codes "i") ingest ∷ turn (drop s) ∷ build (codes "j") ∷ take_install (codes "j")
    ∷ drop_job (codes "j") ∷ put_out s a (codes "2") ∷ write_turn ∷ end_turn ∷ info ∷ auto ∷ [])
    ≡ ok 1 ∷ ok 2 ∷ none ∷ ok 2 ∷ pick_next ingest ∷ accepted
    ∷ refused (job_state picked) ∷ refused (node_busy (codes "j")) ∷ refused (node_busy (codes "j")) ∷ ok 2 ∷ accepted
    ∷ refused (job_state installing) ∷ ok 3 ∷ written ∷ ok 2
    ∷ figures (record { number = 3; frozen = 0; charge = 61; free = 62; manifest = 1 }) ∷ none ∷ []
unfolding normal_form newest
an_ingest_in_its_phases = refl

a_spill_and_a_compaction :
    answers (started device)
    (turn (create s Plain 1) ∷ put_out s (codes "a1") one ∷ put_out s (codes "b1") one ∷ turn freeze ∷ job ingest
    ∷ job (of_run spill s [] 0 1) ∷ tree s ∷ write_by nobody s (Del (codes "a1")) ∷ turn freeze ∷ job ingest ∷ job (of_run spill s [] 0 1)
    ∷ tree s ∷ job (of_run values s (1 ∷ []) 0 2) ∷ tree s ∷ job (of_run keys s (3 ∷ []) 0 1) ∷ [])
    ≡ ok 1 ∷ ok 2 ∷ ok 3 ∷ ok 3 ∷ ok 2 ∷ ok 4
    ∷ sets (record { path = 1 ∷ []; index = 0; rows = 1; blocks = 2 } ∷ record { path = 2 ∷ []; index = 0; rows = 1; blocks = 2 } ∷ [])
    ∷ ok 4 ∷ ok 4 ∷ ok 1 ∷ ok 1
    ∷ sets
    (record { path = 1 ∷ []; index = 0; rows = 1; blocks = 1 } ∷ record { path = 1 ∷ []; index = 1; rows = 1; blocks = 2 }
    ∷ record { path = 2 ∷ []; index = 0; rows = 1; blocks = 2 } ∷ [])
    ∷ ok 0 ∷ sets (record { path = 2 ∷ []; index = 0; rows = 1; blocks = 2 } ∷ []) ∷ refused (no_run 0) ∷ []
unfolding normal_form newest
a_spill_and_a_compaction = refl

slots_may_be_full :
    answers (started (record device { slots = 5; segment_size = 65536 }))
    (turn (create s Plain 0) ∷ put_out s a one ∷ turn freeze ∷ job ingest ∷ put_out s b one ∷ turn freeze ∷ job ingest
    ∷ put_out s (codes "c") one ∷ turn freeze ∷ job ingest ∷ tree s ∷ job (of_run keys s [] 0 2) ∷ job ingest ∷ tree s ∷ info ∷ [])
    ≡ ok 1 ∷ ok 2 ∷ ok 2 ∷ ok 2 ∷ ok 3 ∷ ok 3 ∷ ok 2
    ∷ ok 4 ∷ ok 4 ∷ refused (full 2 1)
    ∷ sets (record { path = []; index = 0; rows = 1; blocks = 2 } ∷ record { path = []; index = 1; rows = 1; blocks = 2 } ∷ [])
    ∷ ok 1 ∷ ok 2
    ∷ sets (record { path = []; index = 0; rows = 1; blocks = 2 } ∷ record { path = []; index = 1; rows = 2; blocks = 3 } ∷ [])
    ∷ figures (record { number = 4; frozen = 0; charge = 0; free = 0; manifest = 1 }) ∷ []
unfolding normal_form newest
slots_may_be_full = refl

-- a short prefix goes to all sixteen children, and a compaction of the last leaves nothing
a_short_prefix_is_spilled_to_each_child :
    answers (started device)
    (turn (create s Plain 2) ∷ put_out s (codes "aa") one ∷ turn freeze ∷ job ingest ∷ job (of_run spill s [] 0 1)
    ∷ write_by nobody s (PDel a) ∷ turn freeze ∷ job ingest ∷ job (of_run spill s [] 0 1) ∷ job (of_run values s (0 ∷ []) 0 2) ∷ [])
    ≡ ok 1 ∷ ok 2 ∷ ok 2 ∷ ok 2 ∷ ok 2 ∷ ok 3 ∷ ok 3 ∷ ok 1 ∷ ok 16 ∷ ok 0 ∷ []
unfolding normal_form newest
a_short_prefix_is_spilled_to_each_child = refl
