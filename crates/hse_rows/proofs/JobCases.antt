-- Small cases of the steps of jobs, worked by hand: what picks, builds and installs change.
use Rattle.std.proofs.Common.{◌≡◌, ℕ, ◌+◌, ◌*◌, true, false, List, [], ◌∷◌, map, refl}
use Rattle.std.specs.Prelude.{codes}
use Rattle.hse_rows.specs.declared.store.Mode.TheVariants.{Plain}
use Rattle.hse_rows.specs.declared.change.Change.TheVariants.{Put, Del}
use Rattle.hse_rows.specs.declared.row.Row.{Row}
use Rattle.hse_rows.specs.writes.NormalForm.{normal_form}
use Rattle.hse_rows.specs.rows.Newest.{newest}
use Rattle.hse_rows.specs.rows.Layout.{RowsInBlocks, Node, NewSet}
use Rattle.hse_rows.specs.rows.Job.{ingest, of_run, keys, values, spill, ingesting, on_run, Job, Work, JobState, picked, built, installing}
use Rattle.hse_rows.specs.machine.Turn.{freeze, create, drop, home}
use Rattle.hse_rows.specs.script.ScriptLines.{nobody, write_by, pick, build, drop_job, take, take_install, write_turn, end_turn, turn, job}
use Rattle.hse_rows.specs.script.Script.{Script}
use Rattle.hse_rows.specs.script.ScriptDone.{done, failing, refused_to}
use Rattle.hse_rows.proofs.CaseLines.{with_manifest}
use Rattle.hse_rows.proofs.RowCases.{device, started, led, put_out, a, b, s, one}

abbrev j : List ℕ
j = codes "j"

-- a row of a put, and a set of it
abbrev put_row : ℕ → List ℕ → Row
put_row number key = record { number = number; change = Put key one }

abbrev set_of_one : Row → ℕ → RowsInBlocks
set_of_one row value_blocks =
    record { rows = row ∷ []; prefix_blocks = 0; key_blocks = 1; value_blocks = value_blocks }

abbrev node_of : List ℕ → List RowsInBlocks → Node
node_of path sets = record { store = 1; path = path; sets = sets }

abbrev the_job : Work → JobState → List NewSet → List Job
the_job work state sets = record { id = 0; work = work; state = state; sets = sets } ∷ []

-- ---- an ingest: a put of a, a put of b in another layer, and one that is not frozen

abbrev of_two_layers : Script
of_two_layers =
    led (started device)
    (turn (create s Plain 1) ∷ put_out s a one ∷ turn freeze ∷ put_out s b one ∷ turn freeze
    ∷ put_out s (codes "c") one ∷ [])

abbrev ingest_picked : Script
ingest_picked = led of_two_layers (pick j ingest ∷ [])

a_picked_ingest_is_a_job : ingest_picked.core.jobs ≡ the_job ingesting picked []
unfolding normal_form
a_picked_ingest_is_a_job = refl

-- of the oldest layer
abbrev its_set : NewSet
its_set = record { store = 1; path = []; set = set_of_one (put_row 2 a) 1 }

abbrev ingest_built : Script
ingest_built = led ingest_picked (build j ∷ [])

a_built_ingest_has_its_sets : ingest_built.core.jobs ≡ the_job ingesting built (its_set ∷ [])
unfolding normal_form newest
a_built_ingest_has_its_sets = refl

-- picks, builds and drops of jobs change nothing else
a_pick_changes_jobs_alone :
    (done of_two_layers (pick j ingest)).core
    ≡ record of_two_layers.core { jobs = the_job ingesting picked []; picked = 1 }
unfolding normal_form
a_pick_changes_jobs_alone = refl

a_dropped_job_is_gone : (done ingest_picked (drop_job j)).core.jobs ≡ []
unfolding normal_form
a_dropped_job_is_gone = refl

one_that_is_built_too : (done ingest_built (drop_job j)).core.jobs ≡ []
unfolding normal_form newest
one_that_is_built_too = refl

abbrev ingest_taken : Script
ingest_taken = led ingest_built (take_install j ∷ [])

a_taken_install_installs : ingest_taken.core.jobs ≡ the_job ingesting installing (its_set ∷ [])
unfolding normal_form newest
a_taken_install_installs = refl

its_new_blocks_are_used : ingest_taken.core.used_slots ≡ 2
unfolding normal_form newest
its_new_blocks_are_used = refl

its_sets_stand_nowhere_yet : ingest_taken.core.layout ≡ []
unfolding normal_form newest
its_sets_stand_nowhere_yet = refl

abbrev ingested : Script
ingested = led ingest_taken (write_turn ∷ end_turn ∷ [])

the_end_puts_its_set_at_the_root : ingested.core.layout ≡ node_of [] (set_of_one (put_row 2 a) 1 ∷ []) ∷ []
unfolding normal_form newest
the_end_puts_its_set_at_the_root = refl

the_oldest_layer_leaves : map (λ layer. layer.last) ingested.core.log.frozen ≡ 3 ∷ []
unfolding normal_form newest
the_oldest_layer_leaves = refl

its_last_number_is_the_horizon : ingested.core.log.horizon ≡ 2
unfolding normal_form newest
its_last_number_is_the_horizon = refl

the_first_segment_rises_by_one : ingested.core.log.first_segment ≡ 2
unfolding normal_form newest
the_first_segment_rises_by_one = refl

the_active_layer_stays : map (λ commit. commit.number) ingested.core.log.active ≡ 4 ∷ []
unfolding normal_form newest
the_active_layer_stays = refl

the_job_is_gone : ingested.core.jobs ≡ []
unfolding normal_form newest
the_job_is_gone = refl

the_turn_is_home : ingested.core.turn ≡ home
unfolding normal_form newest
the_turn_is_home = refl

-- 5 + 21 + 8 + 20 bytes behind 58, and the creation's number is below the horizon
the_manifest_has_the_ingest : ingested.core.manifest ≡ record { sequence = 1; used = 112; taken = [] }
unfolding normal_form newest
the_manifest_has_the_ingest = refl

an_install_makes_nothing_safe : map (λ m. m.core.safe) (of_two_layers ∷ ingested ∷ []) ≡ 3 ∷ 3 ∷ []
unfolding normal_form newest
an_install_makes_nothing_safe = refl

-- ---- the whole state that starts another half

-- a half that has no byte left, and these numbers
abbrev in_full_half : Script → List ℕ → Script
in_full_half script taken = with_manifest script (record { sequence = 1; used = 65536; taken = taken })

-- 10 + 5 + 25 bytes, 16 of the store, and 25 of the node with the new set
it_has_the_sets_of_an_install :
    (led (in_full_half ingest_built (1 ∷ [])) (take_install j ∷ write_turn ∷ end_turn ∷ [])).core.manifest
    ≡ record { sequence = 2; used = 81; taken = [] }
unfolding normal_form newest
it_has_the_sets_of_an_install = refl

-- 10 + 5 + 25 bytes, and 8 of the run of the drop's number
and_none_of_a_dropped_store :
    (done (in_full_half ingested []) (turn (drop s))).core.manifest
    ≡ record { sequence = 2; used = 48; taken = 5 ∷ [] }
unfolding normal_form newest
and_none_of_a_dropped_store = refl

-- ---- runs

-- two sets at the root, of b over a
abbrev of_two_sets : Script
of_two_sets = led ingested (job ingest ∷ [])

-- 10 + 5 + 25 bytes, 16 of the store, and 25 of the node with one set in place of two
a_whole_state_has_the_new_set_alone :
    (done (in_full_half of_two_sets []) (job (of_run values s [] 0 2))).core.manifest
    ≡ record { sequence = 2; used = 81; taken = [] }
unfolding normal_form newest
a_whole_state_has_the_new_set_alone = refl

the_newest_set_stands_in_front :
    of_two_sets.core.layout
    ≡ node_of [] (set_of_one (put_row 3 b) 1 ∷ set_of_one (put_row 2 a) 1 ∷ []) ∷ []
unfolding normal_form newest
the_newest_set_stands_in_front = refl

-- a run is found by the older sets behind it
a_picked_run_knows_its_place :
    map (λ job. job.work) (led of_two_sets (pick j (of_run values s [] 0 1) ∷ [])).core.jobs
    ≡ on_run (record { kind = values; store = 1; prefix_length = 1; path = []; older = 1; len = 1; last = false }) ∷ []
unfolding normal_form newest
a_picked_run_knows_its_place = refl

the_whole_of_a_node_without_children_is_last :
    map (λ job. job.work) (led of_two_sets (pick j (of_run keys s [] 0 2) ∷ [])).core.jobs
    ≡ on_run (record { kind = keys; store = 1; prefix_length = 1; path = []; older = 0; len = 2; last = true }) ∷ []
unfolding normal_form newest
the_whole_of_a_node_without_children_is_last = refl

-- four blocks are three, two of which are the values' own
abbrev keys_merged : Script
keys_merged = led of_two_sets (job (of_run keys s [] 0 2) ∷ [])

a_key_compaction_takes_values_over :
    keys_merged.core.layout
    ≡ node_of []
    (record { rows = put_row 2 a ∷ put_row 3 b ∷ []; prefix_blocks = 0; key_blocks = 1; value_blocks = 2 } ∷ []) ∷ []
unfolding normal_form newest
a_key_compaction_takes_values_over = refl

replaced_blocks_are_free :
    map (λ m. m.core.used_slots) (of_two_sets ∷ keys_merged ∷ led keys_merged (job (of_run values s [] 0 1) ∷ []) ∷ [])
    ≡ 4 ∷ 3 ∷ 2 ∷ []
unfolding normal_form newest
replaced_blocks_are_free = refl

-- both old and new blocks are used between the take and the end
until_the_end_both_are_used :
    (led of_two_sets (pick j (of_run values s [] 0 2) ∷ build j ∷ take_install j ∷ write_turn ∷ [])).core.used_slots
    ≡ 6
unfolding normal_form newest
until_the_end_both_are_used = refl

-- a set that comes while a run is worked on stands in front of it
a_new_set_does_not_change_the_run :
    (led of_two_layers
    (job ingest ∷ pick j (of_run keys s [] 0 1) ∷ job ingest ∷ build j ∷ take_install j ∷ write_turn ∷ end_turn ∷ [])).core.layout
    ≡ node_of [] (set_of_one (put_row 3 b) 1 ∷ set_of_one (put_row 2 a) 1 ∷ []) ∷ []
unfolding normal_form newest
a_new_set_does_not_change_the_run = refl

-- a half of 65,536 bytes that had 641 rounds: each ingest takes 54 bytes, and each compaction 5 + 22 + 21
abbrev after_641_rounds : Script
after_641_rounds =
    with_manifest
    (led (started device)
    (turn (create s Plain 0) ∷ put_out s a one ∷ turn freeze ∷ job ingest ∷ put_out s a one ∷ turn freeze ∷ []))
    (record { sequence = 1; used = 58 + 641 * 102; taken = [] })

one_more_ingest_has_room : (led after_641_rounds (job ingest ∷ [])).core.manifest ≡ record { sequence = 1; used = 65494; taken = [] }
unfolding normal_form newest
one_more_ingest_has_room = refl

-- the whole state takes 5 + 25 + 16 + 25 bytes behind the head of 10
a_compaction_behind_it_starts_the_other_half :
    (led after_641_rounds (job ingest ∷ job (of_run values s [] 0 2) ∷ [])).core.manifest
    ≡ record { sequence = 2; used = 81; taken = [] }
unfolding normal_form newest
a_compaction_behind_it_starts_the_other_half = refl

-- ---- what is last is decided at the pick

-- a deletion at the root, and nothing else
abbrev of_a_deletion : Script
of_a_deletion =
    led (started device)
    (turn (create s Plain 1) ∷ write_by nobody s (Del a) ∷ turn freeze ∷ job ingest ∷ [])

a_deletion_picked_as_last_leaves_no_set :
    (led of_a_deletion (job (of_run values s [] 0 1) ∷ [])).core.layout ≡ []
unfolding normal_form newest
a_deletion_picked_as_last_leaves_no_set = refl

-- above a child it is spilled and stays
above_a_child_it_stays :
    (led (started device)
    (turn (create s Plain 1) ∷ put_out s a one ∷ turn freeze ∷ job ingest ∷ job (of_run spill s [] 0 1)
    ∷ write_by nobody s (Del a) ∷ turn freeze ∷ job ingest ∷ job (of_run values s [] 0 1) ∷ [])).core.layout
    ≡ node_of [] (set_of_one (record { number = 3; change = Del a }) 0 ∷ [])
    ∷ node_of (1 ∷ []) (set_of_one (put_row 2 a) 1 ∷ []) ∷ []
unfolding normal_form newest
above_a_child_it_stays = refl

-- ---- drops and faults

a_drop_s_sets_stay_until_its_end :
    map (λ m. m.core.used_slots) (led of_two_sets (take (drop s) ∷ write_turn ∷ []) ∷ led of_two_sets (take (drop s) ∷ write_turn ∷ end_turn ∷ []) ∷ [])
    ≡ 4 ∷ 0 ∷ []
unfolding normal_form newest
a_drop_s_sets_stay_until_its_end = refl

then_they_leave : (led of_two_sets (turn (drop s) ∷ [])).core.layout ≡ []
unfolding normal_form newest
then_they_leave = refl

abbrev install_failed : Script
install_failed = refused_to (failing ingest_taken write_turn) end_turn

a_failed_install_leaves_its_blocks_used : install_failed.core.used_slots ≡ 2
unfolding normal_form newest
a_failed_install_leaves_its_blocks_used = refl

and_its_sets_stand_nowhere : install_failed.core.layout ≡ []
unfolding normal_form newest
and_its_sets_stand_nowhere = refl

its_job_is_gone : install_failed.core.jobs ≡ []
unfolding normal_form newest
its_job_is_gone = refl

its_layer_stays : map (λ layer. layer.last) install_failed.core.log.frozen ≡ 3 ∷ 2 ∷ []
unfolding normal_form newest
its_layer_stays = refl

its_entry_is_not_in_the_manifest : install_failed.core.manifest ≡ record { sequence = 1; used = 58; taken = 1 ∷ [] }
unfolding normal_form newest
its_entry_is_not_in_the_manifest = refl

-- a line of a job, too
abbrev job_failed : Script
job_failed = failing of_two_layers (job ingest)

a_job_that_a_line_picked_is_gone : job_failed.core.jobs ≡ []
unfolding normal_form newest
a_job_that_a_line_picked_is_gone = refl

and_the_turn_is_home : job_failed.core.turn ≡ home
unfolding normal_form newest
and_the_turn_is_home = refl

its_blocks_stay_used_too : job_failed.core.used_slots ≡ 2
unfolding normal_form newest
its_blocks_stay_used_too = refl
