-- Small cases of which job comes next, worked by hand.
use Rattle.std.proofs.Common.{◌≡◌, ℕ, false, List, [], ◌∷◌, map, Option, Some, None, refl}
use Rattle.std.specs.Prelude.{codes, replicate}
use Rattle.hse_rows.specs.declared.store.Mode.TheVariants.{Plain}
use Rattle.hse_rows.specs.declared.change.Change.TheVariants.{Del}
use Rattle.hse_rows.specs.declared.row.Row.{Row}
use Rattle.hse_rows.specs.writes.NormalForm.{normal_form}
use Rattle.hse_rows.specs.rows.Newest.{newest}
use Rattle.hse_rows.specs.states.History.{new_store}
use Rattle.hse_rows.specs.machine.Log.{new_log, Frozen}
use Rattle.hse_rows.specs.rows.Layout.{RowsInBlocks, Node, Layout}
use Rattle.hse_rows.specs.rows.Job.{keys, values, spill, JobWish, ingest, of_run, ingesting, on_run, Job, picked}
use Rattle.hse_rows.specs.machine.Turn.{freeze, create}
use Rattle.hse_rows.specs.machine.Replies.{accepted, ok, none, sets, pick_next}
use Rattle.hse_rows.specs.machine.Core.{Core, life, new_manifest}
use Rattle.hse_rows.specs.rows.Schedule.{next_wish}
use Rattle.hse_rows.specs.script.ScriptLines.{pick, next_job, tree, turn, auto}
use Rattle.hse_rows.proofs.RowCases.{device, started, answers, put_out, a, b, s, one}

-- ---- a layout of the stores s, 1, and b, 2, of which a third was dropped

-- sets of so many rows each
abbrev a_row : Row
a_row = record { number = 3; change = Del a }

abbrev set_of : ℕ → RowsInBlocks
set_of rows = record { rows = replicate rows a_row; prefix_blocks = 0; key_blocks = 1; value_blocks = 1 }

abbrev node_of : ℕ → List ℕ → List ℕ → Node
node_of store path rows = record { store = store; path = path; sets = map set_of rows }

abbrev of_nodes : Layout → Core
of_nodes layout =
    life
    (record {
      sizes = device;
      base = record { number = 3; stores = new_store 1 s Plain 0 ∷ new_store 2 b Plain 0 ∷ [] };
      log = new_log;
      manifest = new_manifest;
      layout = layout;
    })

abbrev next_of : Layout → Option JobWish
next_of layout = next_wish (of_nodes layout)

-- ---- how many sets

three_sets_wait_for_none : next_of (node_of 1 [] (1 ∷ 1 ∷ 1 ∷ []) ∷ []) ≡ None
three_sets_wait_for_none = refl

four_sets_without_children_are_written_anew :
    next_of (node_of 1 [] (1 ∷ 1 ∷ 1 ∷ 1 ∷ []) ∷ [])
    ≡ Some (of_run values s [] 0 4)
four_sets_without_children_are_written_anew = refl

the_run_has_all_sets : next_of (node_of 1 [] (1 ∷ 1 ∷ 1 ∷ 1 ∷ 1 ∷ []) ∷ []) ≡ Some (of_run values s [] 0 5)
the_run_has_all_sets = refl

four_sets_above_a_child_get_new_keys :
    next_of (node_of 1 [] (1 ∷ 1 ∷ 1 ∷ 1 ∷ []) ∷ node_of 1 (7 ∷ 0 ∷ []) (1 ∷ []) ∷ [])
    ≡ Some (of_run keys s [] 0 4)
four_sets_above_a_child_get_new_keys = refl

another_store_s_node_is_no_child :
    next_of (node_of 1 [] (1 ∷ 1 ∷ 1 ∷ 1 ∷ []) ∷ node_of 2 (7 ∷ []) (1 ∷ []) ∷ [])
    ≡ Some (of_run values s [] 0 4)
another_store_s_node_is_no_child = refl

-- ---- how many rows

rows_below_8192_are_not_spilled :
    next_of (node_of 1 [] (8188 ∷ 1 ∷ 1 ∷ 1 ∷ []) ∷ [])
    ≡ Some (of_run values s [] 0 4)
rows_below_8192_are_not_spilled = refl

rows_from_8192_on_are :
    next_of (node_of 1 [] (2048 ∷ 2048 ∷ 2048 ∷ 2048 ∷ []) ∷ [])
    ≡ Some (of_run spill s [] 0 4)
rows_from_8192_on_are = refl

above_a_child_too :
    next_of (node_of 1 [] (8189 ∷ 1 ∷ 1 ∷ 1 ∷ []) ∷ node_of 1 (7 ∷ []) (1 ∷ []) ∷ [])
    ≡ Some (of_run spill s [] 0 4)
above_a_child_too = refl

three_sets_of_8192_rows_wait_for_none : next_of (node_of 1 [] (8190 ∷ 1 ∷ 1 ∷ []) ∷ []) ≡ None
three_sets_of_8192_rows_wait_for_none = refl

at_depth_3_they_are_spilled :
    next_of (node_of 1 (0 ∷ 1 ∷ 2 ∷ []) (8189 ∷ 1 ∷ 1 ∷ 1 ∷ []) ∷ [])
    ≡ Some (of_run spill s (0 ∷ 1 ∷ 2 ∷ []) 0 4)
at_depth_3_they_are_spilled = refl

at_depth_4_they_are_written_anew :
    next_of (node_of 1 (0 ∷ 1 ∷ 2 ∷ 3 ∷ []) (8189 ∷ 1 ∷ 1 ∷ 1 ∷ []) ∷ [])
    ≡ Some (of_run values s (0 ∷ 1 ∷ 2 ∷ 3 ∷ []) 0 4)
at_depth_4_they_are_written_anew = refl

-- ---- which node

-- four sets at two nodes of s and at a node of b
abbrev three_wait : Layout
three_wait =
    node_of 1 [] (1 ∷ []) ∷ node_of 1 (1 ∷ 15 ∷ []) (1 ∷ 1 ∷ 1 ∷ 1 ∷ []) ∷ node_of 1 (2 ∷ []) (1 ∷ 1 ∷ 1 ∷ 1 ∷ [])
    ∷ node_of 2 [] (1 ∷ 1 ∷ 1 ∷ 1 ∷ []) ∷ []

the_first_by_path_comes_first : next_of three_wait ≡ Some (of_run values s (1 ∷ 15 ∷ []) 0 4)
the_first_by_path_comes_first = refl

-- a job on a node of a store
abbrev claim : ℕ → ℕ → List ℕ → Job
claim id store path = record {
  id = id;
  work = on_run (record { kind = values; store = store; prefix_length = 0; path = path; older = 0; len = 1; last = false });
  state = picked;
  sets = [];
}

a_claimed_node_is_passed_over :
    next_wish (record (of_nodes three_wait) { jobs = claim 0 1 (1 ∷ 15 ∷ []) ∷ [] })
    ≡ Some (of_run values s (2 ∷ []) 0 4)
a_claimed_node_is_passed_over = refl

the_next_store_comes_after :
    next_wish (record (of_nodes three_wait) { jobs = claim 0 1 (2 ∷ []) ∷ claim 1 1 (1 ∷ 15 ∷ []) ∷ [] })
    ≡ Some (of_run values b [] 0 4)
the_next_store_comes_after = refl

and_none_where_all_are_claimed :
    next_wish (record (of_nodes three_wait) { jobs = claim 0 1 (2 ∷ []) ∷ claim 1 1 (1 ∷ 15 ∷ []) ∷ claim 2 2 [] ∷ [] })
    ≡ None
and_none_where_all_are_claimed = refl

another_node_s_claim_is_none :
    next_wish (record (of_nodes three_wait) { jobs = claim 0 1 (1 ∷ []) ∷ claim 1 2 (1 ∷ 15 ∷ []) ∷ [] })
    ≡ Some (of_run values s (1 ∷ 15 ∷ []) 0 4)
another_node_s_claim_is_none = refl

a_dropped_store_s_node_is_passed_over :
    next_of (node_of 3 [] (1 ∷ 1 ∷ 1 ∷ 1 ∷ []) ∷ [])
    ≡ None
a_dropped_store_s_node_is_passed_over = refl

-- ---- ingests

abbrev layer : Frozen
layer = record { last = 2; commits = [] }

abbrev of_a_layer : Core
of_a_layer = record (of_nodes three_wait) { log = record new_log { frozen = layer ∷ [] } }

an_ingest_comes_before_all : next_wish of_a_layer ≡ Some ingest
an_ingest_comes_before_all = refl

one_ingest_at_a_time :
    next_wish (record of_a_layer { jobs = record { id = 0; work = ingesting; state = picked; sets = [] } ∷ [] })
    ≡ Some (of_run values s (1 ∷ 15 ∷ []) 0 4)
one_ingest_at_a_time = refl

a_live_ingest_alone_is_followed_by_none :
    answers (started device)
    (turn (create s Plain 0) ∷ put_out s a one ∷ turn freeze ∷ pick (codes "j") ingest ∷ next_job ∷ auto ∷ [])
    ≡ ok 1 ∷ ok 2 ∷ ok 2 ∷ accepted ∷ none ∷ none ∷ []
unfolding normal_form
a_live_ingest_alone_is_followed_by_none = refl

-- ---- `auto` is the line that `next` names

four_layers_are_ingested_and_merged :
    answers (started device)
    (turn (create s Plain 0) ∷ put_out s a one ∷ turn freeze ∷ auto ∷ put_out s a one ∷ turn freeze ∷ auto ∷ put_out s a one
    ∷ turn freeze ∷ auto ∷ next_job ∷ put_out s a one ∷ turn freeze ∷ next_job ∷ auto ∷ next_job ∷ auto ∷ tree s ∷ next_job ∷ [])
    ≡ ok 1 ∷ ok 2 ∷ ok 2 ∷ ok 2 ∷ ok 3 ∷ ok 3 ∷ ok 2 ∷ ok 4 ∷ ok 4 ∷ ok 2 ∷ none ∷ ok 5 ∷ ok 5 ∷ pick_next ingest ∷ ok 2
    ∷ pick_next (of_run values s [] 0 4) ∷ ok 2
    ∷ sets (record { path = []; index = 0; rows = 1; blocks = 2 } ∷ []) ∷ none ∷ []
unfolding normal_form newest
four_layers_are_ingested_and_merged = refl
