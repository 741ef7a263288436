-- Small cases of the machine's limits: stores, numbers and the manifest's room, worked by hand.
use Rattle.std.proofs.Common.{◌≡◌, ℕ, ◌+◌, ◌-◌, ◌*◌, ◌/◌, ◌%◌, ◌≤◌, List, [], ◌∷◌, length, map, Some, None, true, false, refl, arith}
use Rattle.std.specs.Prelude.{codes}
use Rattle.std.specs.List.{range_with_len}
use Rattle.hse_rows.specs.declared.store.Mode.TheVariants.{Plain, Tx}
use Rattle.hse_rows.specs.writes.NormalForm.{normal_form}
use Rattle.hse_rows.specs.states.State.{Store}
use Rattle.hse_rows.specs.states.History.{drops, new_store}
use Rattle.hse_rows.specs.machine.Log.{new_log}
use Rattle.hse_rows.specs.machine.TakenRuns.{runs_of}
use Rattle.hse_rows.specs.machine.ManifestRoom.{batch_bytes, base_bytes}
use Rattle.hse_rows.specs.machine.Replies.{store_exists, broken, too_many, spent, manifest_full, txn_size, log_full, ok, figures}
use Rattle.hse_rows.specs.rows.Job.{keys, Job, ingesting, on_run}
use Rattle.hse_rows.specs.rows.Job as job
use Rattle.hse_rows.specs.machine.Turn as turn
use Rattle.hse_rows.specs.machine.Core.{Core, life, new_manifest}
use Rattle.hse_rows.specs.machine.Core as core
use Rattle.hse_rows.specs.machine.Limits.{IsWithinLimits}
use Rattle.hse_rows.specs.machine.CoreStep.{loads}
use Rattle.hse_rows.specs.laws.CoreLaws.{LoadsWithinLimits, WorkFits}
use Rattle.hse_rows.specs.script.ScriptLines.{Line, get, info}
use Rattle.hse_rows.specs.script.Script.{Script, begins_with}
use Rattle.hse_rows.specs.script.ScriptRefusal.{refusal}
use Rattle.hse_rows.specs.script.ScriptDone.{reply, done}
use Rattle.hse_rows.proofs.CaseLines.{outside, create_store, drop_store, sync, del, formatted, without_sets, loaded, failed, with_manifest, with_sizes}
use Rattle.hse_rows.proofs.MachineCases.{small, fresh, a_put}

abbrev creation : Line
creation = create_store (codes "t") Plain 0

-- ---- live stores

-- stores aa, ab and so on
abbrev lettered : ℕ → Store
lettered id = new_store id ((97 + (id - 1) / 26) ∷ (97 + (id - 1) % 26) ∷ []) Plain 0

-- as many creations, by this number
unfoldable pub with_stores : ℕ → ℕ → Script
with_stores count number =
    loaded small (record { number = number; stores = map lettered (range_with_len 1 count) }) new_log
    (record { sequence = 1; used = 40 + 25 * count; taken = range_with_len 1 count })

a_store_above_256_is_refused : refusal (with_stores 256 256) creation ≡ Some (too_many 256)
unfolding with_stores
a_store_above_256_is_refused = refl

the_last_of_256_is_taken : refusal (with_stores 255 255) creation ≡ None
unfolding with_stores
the_last_of_256_is_taken = refl

a_drop_makes_room_for_one : refusal (done (with_stores 256 256) (drop_store (codes "jv"))) creation ≡ None
unfolding with_stores
a_drop_makes_room_for_one = refl

a_name_is_refused_before_the_count : refusal (with_stores 256 256) (create_store (codes "jv") Tx 0) ≡ Some store_exists
unfolding with_stores
a_name_is_refused_before_the_count = refl

a_broken_engine_is_refused_before_the_count : refusal (failed (with_stores 256 256)) creation ≡ Some broken
unfolding with_stores
a_broken_engine_is_refused_before_the_count = refl

the_count_is_refused_before_the_number : refusal (with_stores 256 4611686018427387904) creation ≡ Some (too_many 256)
unfolding with_stores
the_count_is_refused_before_the_number = refl

-- the limit is the device's
a_device_of_one_store_takes_one :
    map (λ stores. refusal (with_sizes stores (record small { most_stores = 1 })) creation) (with_stores 0 0 ∷ with_stores 1 1 ∷ [])
    ≡ None ∷ Some (too_many 1) ∷ []
unfolding with_stores
a_device_of_one_store_takes_one = refl

-- ---- numbers

-- a store s, at this number
abbrev at_number : ℕ → Script
at_number number =
    loaded small (record { number = number; stores = new_store 1 (codes "s") Plain 0 ∷ [] }) new_log new_manifest

no_event_follows_the_last_number :
    map (refusal (at_number 4611686018427387904)) (creation ∷ drop_store (codes "s") ∷ a_put
    ∷ del outside (codes "s") (codes "a") ∷ [])
    ≡ Some spent ∷ Some spent ∷ Some spent ∷ Some spent ∷ []
unfolding normal_form
no_event_follows_the_last_number = refl

what_is_no_event_goes_on :
    map (refusal (at_number 4611686018427387904)) (get outside (codes "s") (codes "a") ∷ sync ∷ []) ≡ None ∷ None ∷ []
what_is_no_event_goes_on = refl

the_last_number_is_given : reply (at_number 4611686018427387903) a_put ≡ ok 4611686018427387904
the_last_number_is_given = refl

the_number_before_it_is_not_the_last : refusal (at_number 4611686018427387903) a_put ≡ None
unfolding normal_form
the_number_before_it_is_not_the_last = refl

after_it_no_event_comes : refusal (done (at_number 4611686018427387903) a_put) a_put ≡ Some spent
unfolding normal_form
after_it_no_event_comes = refl

a_broken_engine_is_refused_before_the_number : refusal (failed (at_number 4611686018427387904)) a_put ≡ Some broken
unfolding normal_form
a_broken_engine_is_refused_before_the_number = refl

-- ---- the manifest

-- A store p, and rounds of a put to it and of a creation and a drop of s, whose numbers are a run each. 8,182 rounds make
-- 8,183 runs, and the next creation one more.
three_rounds_are_four_runs : length (runs_of (1 ∷ 3 ∷ 4 ∷ 6 ∷ 7 ∷ 9 ∷ 10 ∷ [])) ≡ 4
three_rounds_are_four_runs = refl

no_half_has_room_for_8184_runs : (taken : List ℕ) → length (runs_of taken) ≡ 8184
    → batch_bytes (base_bytes taken (new_store 1 (codes "p") Plain 0 ∷ new_store 24549 (codes "s") Plain 0 ∷ []) []) ≡ 65534
no_half_has_room_for_8184_runs taken many i = 5 + (25 + 8 * many i + 32 + 0)

-- The same from the first round on, in halves of 100 bytes.
abbrev round : Script → Script
round m = done (done m (create_store (codes "s") Plain 0)) (drop_store (codes "s"))

abbrev tiny : Script
tiny = formatted (record small { half_size = 100 })

a_round_takes_40_bytes : (round tiny).core.manifest ≡ record { sequence = 1; used = 80; taken = 1 ∷ 2 ∷ [] }
a_round_takes_40_bytes = refl

the_second_round_starts_a_half :
    (round (round tiny)).core.manifest
    ≡ record { sequence = 2; used = 48; taken = 1 ∷ 2 ∷ 3 ∷ 4 ∷ [] }
the_second_round_starts_a_half = refl

the_third_has_room_in_it :
    (round (round (round tiny))).core.manifest
    ≡ record { sequence = 2; used = 88; taken = 1 ∷ 2 ∷ 3 ∷ 4 ∷ 5 ∷ 6 ∷ [] }
the_third_has_room_in_it = refl

the_fourth_starts_another :
    (round (round (round (round tiny)))).core.manifest
    ≡ record { sequence = 3; used = 86; taken = 1 ∷ 2 ∷ 3 ∷ 4 ∷ 5 ∷ 6 ∷ 7 ∷ 8 ∷ [] }
the_fourth_starts_another = refl

-- with puts between them the numbers are three runs, and a half of 70 bytes has no room for four
a_fourth_run_is_refused :
    refusal
    (loaded (record small { half_size = 70 }) (record { number = 6; stores = [] }) new_log
    (record { sequence = 1; used = 70; taken = 1 ∷ 3 ∷ 5 ∷ [] }))
    (create_store (codes "s") Plain 0)
    ≡ Some (manifest_full 78 60)
a_fourth_run_is_refused = refl

-- a half that has this much used
abbrev with_half : ℕ → ℕ → Script
with_half sequence used = with_manifest fresh (record { sequence = sequence; used = used; taken = [] })

an_entry_may_fill_its_half :
    (done (with_half 1 65518) creation).core.manifest
    ≡ record { sequence = 1; used = 65536; taken = 1 ∷ [] }
an_entry_may_fill_its_half = refl

one_byte_less_starts_the_other_half :
    (done (with_half 1 65519) creation).core.manifest
    ≡ record { sequence = 2; used = 64; taken = 1 ∷ [] }
one_byte_less_starts_the_other_half = refl

-- a full half of this size, after which a new one takes 54 bytes behind its head of 10
abbrev with_full : ℕ → Script
with_full size = with_sizes (with_half 1 size) (record small { half_size = size })

a_whole_state_may_fill_a_half : (done (with_full 64) creation).core.manifest
    ≡ record { sequence = 2; used = 64; taken = 1 ∷ [] }
a_whole_state_may_fill_a_half = refl

and_is_not_refused : refusal (with_full 64) creation ≡ None
and_is_not_refused = refl

in_one_byte_less_it_is : refusal (with_full 63) creation ≡ Some (manifest_full 54 53)
in_one_byte_less_it_is = refl

no_half_follows_the_last_sequence :
    refusal (with_half 4611686018427387904 65519) creation
    ≡ Some (manifest_full 54 65526)
no_half_follows_the_last_sequence = refl

the_last_half_takes_what_fits : refusal (with_half 4611686018427387904 65518) creation ≡ None
the_last_half_takes_what_fits = refl

-- ---- the log: a put of a byte is charged 61

-- a store s in a device of segments that have this much room
abbrev with_room : ℕ → Script
with_room room = done (formatted (record small { segment_size = 64 + room })) (create_store (codes "s") Plain 0)

a_segment_may_be_full : refusal (done (with_room 122) a_put) a_put ≡ None
unfolding normal_form
a_segment_may_be_full = refl

a_full_segment_takes_none : refusal (done (done (with_room 122) a_put) a_put) a_put ≡ Some (log_full 61 0)
unfolding normal_form
a_full_segment_takes_none = refl

one_byte_less_is_too_few : refusal (done (with_room 121) a_put) a_put ≡ Some (log_full 61 60)
unfolding normal_form
one_byte_less_is_too_few = refl

what_no_segment_takes_is_told_first : refusal (with_room 60) a_put ≡ Some (txn_size 61 60)
unfolding normal_form
what_no_segment_takes_is_told_first = refl

a_deletion_takes_56 : refusal (done (with_room 117) a_put) (del outside (codes "s") (codes "a")) ≡ None
unfolding normal_form
a_deletion_takes_56 = refl

-- ---- figures, where a layer is frozen and two slots are used

abbrev with_sets : Script
with_sets = begins_with (life (record
    (without_sets small (record { number = 2; stores = new_store 1 (codes "s") Plain 0 ∷ [] })
    (record new_log { frozen = record { last = 2; commits = [] } ∷ [] }) new_manifest) {
      layout = record {
        store = 1;
        path = [];
        sets = record { rows = []; prefix_blocks = 0; key_blocks = 1; value_blocks = 1 } ∷ [];
      } ∷ [];
    }))

figures_tell_layers_charge_and_slots :
    reply (done with_sets a_put) info
    ≡ figures (record { number = 3; frozen = 1; charge = 61; free = 62; manifest = 1 })
unfolding normal_form
figures_tell_layers_charge_and_slots = refl

-- ---- the limits together

a_new_device_is_within_them : IsWithinLimits (life (core.formatted small))
a_new_device_is_within_them = record {
  history = record { numbers = omega arith; stores = omega arith };
  log = record { room = omega arith; layers = omega arith; frozen = tt; segments = omega arith };
  manifest = record { used = omega arith; sequence = omega arith };
  slots = omega arith;
  since_base = omega arith;
  until_now = omega arith;
  transactions = record { live = omega arith; begins = omega arith };
  jobs = record { live = omega arith; ids = omega arith; claims = tt };
  cursors = omega arith;
  turn = tt;
}

a_half_that_is_overfull_is_not : ¬ IsWithinLimits (with_half 1 65537).core
a_half_that_is_overfull_is_not within =
    let half : 65537 ≤ 65536 = within.manifest.used in
    absurd (omega (arith, half))

more_slots_than_there_are_are_not : ¬ IsWithinLimits (record fresh.core { used_slots = 65 })
more_slots_than_there_are_are_not within =
    let used : 65 ≤ 64 = within.slots in
    absurd (omega (arith, used))

a_frozen_layer_without_commits_is_not : ¬ IsWithinLimits (record fresh.core {
  log = record { horizon = 0; first_segment = 1; frozen = record { last = 0; commits = [] } ∷ []; active = [] };
})
a_frozen_layer_without_commits_is_not within =
    let some : 1 ≤ 0 = within.log.frozen.0.commits in
    absurd (omega (arith, some))

abbrev picked_job : Job
picked_job = record { id = 0; work = ingesting; state = job.picked; sets = [] }

two_jobs_of_one_id_are_not : ¬ IsWithinLimits (record fresh.core { jobs = picked_job ∷ picked_job ∷ []; picked = 2 })
two_jobs_of_one_id_are_not within =
    let rises : 1 ≤ 0 = within.jobs.ids.1.0 in
    absurd (omega (arith, rises))

two_ingests_are_not : ¬ IsWithinLimits (record fresh.core { jobs = picked_job ∷ record picked_job { id = 1 } ∷ []; picked = 2 })
two_ingests_are_not within =
    absurd (let no : true ≡ false = within.jobs.claims.0.0 in cc)

-- an install's number is what is safe
abbrev install_of_number : ℕ → Core
install_of_number number = record fresh.core {
  turn = turn.taken (record { kind = turn.installing; number = number; plan = turn.installs 0 ingesting [] fresh.core.manifest; calls = true });
  timeline = record { base = fresh.core.timeline.base; history = drops 9 ∷ []; begun = [] };
}

an_install_of_a_later_number_is_not : ¬ IsWithinLimits (install_of_number 1)
an_install_of_a_later_number_is_not within =
    let same : 1 ≡ 0 = within.turn.2.1 in
    absurd (omega (arith, same))

a_run_beyond_its_node_does_not_fit : ¬ WorkFits [] (on_run (record {
  kind = keys;
  store = 1;
  prefix_length = 0;
  path = [];
  older = 0;
  len = 1;
  last = true;
})) []
a_run_beyond_its_node_does_not_fit fits =
    let over : 1 ≤ 0 = fits.0 in
    absurd (omega (arith, over))

a_turn_of_another_kind_is_not : ¬ IsWithinLimits (record fresh.core {
  turn = turn.taken (record { kind = turn.syncing; number = 0; plan = turn.enters fresh.core.manifest; calls = true });
})
a_turn_of_another_kind_is_not within =
    absurd (let no : turn.syncing ≡ turn.creating = within.turn.2.0 in cc)

what_is_safe_is_not_above_the_last_number : ¬ IsWithinLimits (record fresh.core { safe = 1 })
what_is_safe_is_not_above_the_last_number within =
    let safe : 1 ≤ 0 = within.until_now in
    absurd (omega (arith, safe))

it_may_be_loaded : LoadsWithinLimits (loads (core.formatted small))
it_may_be_loaded = a_new_device_is_within_them
