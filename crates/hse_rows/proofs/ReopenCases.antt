-- Small cases of device faults and reopenings, worked by hand.
use Rattle.std.proofs.Common.{◌≡◌, ℕ, List, [], ◌∷◌, map, Option, Some, None, refl, sym, ap, arith}
use Rattle.std.proofs.Math.Bool.{true≢false}
use Rattle.std.specs.Prelude.{codes}
use Rattle.std.specs.Ordering.{nat_cmp}
use Rattle.std.specs.Cmp.Lexicographic.{slice_cmp}
use Rattle.std.specs.FinMap.{get-empty}
use Rattle.std.specs.FinMap as fin_map
use Rattle.hse_rows.specs.declared.store.Mode.TheVariants.{Plain}
use Rattle.hse_rows.specs.declared.change.Change.TheVariants.{Put}
use Rattle.hse_rows.specs.declared.write.Write.{Write}
use Rattle.hse_rows.specs.writes.Change.{write_of}
use Rattle.hse_rows.specs.writes.NormalForm.{normal_form}
use Rattle.hse_rows.specs.laws.Holding.{get-contents_after_all}
use Rattle.hse_rows.specs.states.History.{new_store}
use Rattle.hse_rows.specs.machine.Log.{new_log}
use Rattle.hse_rows.specs.machine.Replies.{superblock, manifest_half, store_exists, no_store, key_length, prefix_length, broken, not_formed, other_version, ok, value, none, listed, refused, no_memory, device_fault}
use Rattle.hse_rows.specs.machine.Core.{Stored}
use Rattle.hse_rows.specs.machine.CoreReply.{found_value}
use Rattle.hse_rows.specs.machine.CoreStep.{Found, loads, breaks_off, has_version}
use Rattle.hse_rows.specs.script.ScriptLines.{Line, list_stores, get, info, reopen, silent}
use Rattle.hse_rows.specs.script.Script.{Script}
use Rattle.hse_rows.specs.script.ScriptNames.{answer_named}
use Rattle.hse_rows.specs.script.ScriptRefusal.{refusal}
use Rattle.hse_rows.specs.script.ScriptDone.{reply, done, failing}
use Rattle.hse_rows.specs.script.ScriptStep.{MayFail, Step, answer_of, led_to}
use Rattle.hse_rows.proofs.CaseLines.{outside, create_store, drop_store, sync, put, del, without_sets, failed, number_of}
use Rattle.hse_rows.proofs.MachineCases.{small, fresh, one_store, a_put}

-- ---- a sync that fails

-- a creation, and a put that no sync wrote
abbrev waiting : Script
waiting = done one_store a_put

abbrev after_fault : Script
after_fault = failing waiting sync

abbrev the_write : Write
the_write = write_of (record { 0 = 1 }) (Put (codes "a") (codes "1"))

abbrev a_get : Line
a_get = get outside (codes "s") (codes "a")

a_sync_writes_what_waits : MayFail waiting sync
unfolding normal_form
a_sync_writes_what_waits = refl

a_sync_of_nothing_writes_nothing : ¬ MayFail one_store sync
a_sync_of_nothing_writes_nothing calls = absurd (true≢false (sym calls))

a_creation_writes : MayFail fresh (create_store (codes "s") Plain 0)
a_creation_writes = refl

a_put_writes_nothing : ¬ MayFail one_store a_put
a_put_writes_nothing writes = writes

a_sync_may_fail : (found : Found) → Step found waiting sync device_fault after_fault
unfolding normal_form
a_sync_may_fail found = (refl, refl, refl)

a_failed_sync_makes_nothing_safe : after_fault.core.safe ≡ 1
a_failed_sync_makes_nothing_safe = refl

a_sync_makes_all_safe : (done waiting sync).core.safe ≡ 2
unfolding normal_form
a_sync_makes_all_safe = refl

a_failed_sync_loses_no_commit : reply after_fault a_get ≡ value (codes "1")
unfolding normal_form
a_failed_sync_loses_no_commit =
    ap (λ (held : Option (List ℕ)). answer_named after_fault (found_value held))
    (get-contents_after_all 1 fin_map.empty (the_write ∷ []) (codes "a"))

-- ---- what a broken engine refuses

all_that_writes_is_refused :
    map (refusal after_fault)
    (create_store (codes "t") Plain 0 ∷ drop_store (codes "s") ∷ a_put ∷ del outside (codes "s") (codes "a")
    ∷ sync ∷ [])
    ≡ Some broken ∷ Some broken ∷ Some broken ∷ Some broken ∷ Some broken ∷ []
unfolding normal_form
all_that_writes_is_refused = refl

what_reads_is_not :
    map (refusal after_fault) (a_get ∷ list_stores ∷ info ∷ reopen ∷ silent ∷ [])
    ≡ None ∷ None ∷ None ∷ None ∷ None ∷ []
unfolding normal_form
what_reads_is_not = refl

what_the_line_says_is_refused_first :
    map (refusal after_fault)
    (create_store (codes "s") Plain 33 ∷ create_store (codes "t") Plain 33 ∷ drop_store (codes "t")
    ∷ put outside (codes "s") [] (codes "1") ∷ [])
    ≡ Some store_exists ∷ Some (prefix_length 33) ∷ Some no_store ∷ Some (key_length 0) ∷ []
unfolding normal_form
what_the_line_says_is_refused_first = refl

-- ---- a creation or a drop that fails has happened; manifest and safe number stay

abbrev after_failed_drop : Script
after_failed_drop = failing one_store (drop_store (codes "s"))

a_failed_drop_is_an_event : number_of after_failed_drop ≡ 2
a_failed_drop_is_an_event = refl

a_failed_drop_leaves_no_store : reply after_failed_drop list_stores ≡ listed []
a_failed_drop_leaves_no_store = refl

a_failed_drop_makes_nothing_safe : after_failed_drop.core.safe ≡ 1
a_failed_drop_makes_nothing_safe = refl

a_failed_drop_is_not_in_the_manifest : after_failed_drop.core.manifest ≡ record { sequence = 1; used = 58; taken = 1 ∷ [] }
a_failed_drop_is_not_in_the_manifest = refl

a_failed_drop_breaks :
    map (refusal after_failed_drop) (create_store (codes "s") Plain 0 ∷ a_put ∷ sync ∷ [])
    ≡ Some broken ∷ Some no_store ∷ Some broken ∷ []
a_failed_drop_breaks = refl

a_failed_creation_has_its_store :
    map (refusal (failing fresh (create_store (codes "s") Plain 0))) (create_store (codes "s") Plain 0 ∷ a_put ∷ [])
    ≡ Some store_exists ∷ Some broken ∷ []
unfolding normal_form
a_failed_creation_has_its_store = refl

a_failed_creation_makes_nothing_safe : (failing fresh (create_store (codes "s") Plain 0)).core.safe ≡ 0
a_failed_creation_makes_nothing_safe = refl

a_failed_creation_is_not_in_the_manifest :
    (failing fresh (create_store (codes "s") Plain 0)).core.manifest
    ≡ record { sequence = 1; used = 40; taken = [] }
a_failed_creation_is_not_in_the_manifest = refl

-- ---- a reopening that finds a state

-- the device has the creation alone
abbrev stored : Stored
stored =
    without_sets small (record { number = 1; stores = new_store 1 (codes "s") Plain 0 ∷ [] }) new_log
    (record { sequence = 1; used = 58; taken = 1 ∷ [] })

abbrev reopened : Script
reopened = led_to (loads stored) after_fault reopen (ok 1)

a_reopening_answers_the_number_that_it_finds : answer_of (loads stored) after_fault reopen ≡ ok 1
a_reopening_answers_the_number_that_it_finds = refl

a_reopening_is_a_step : Step (loads stored) after_fault reopen (ok 1) reopened
a_reopening_is_a_step = (refl, (refl, refl))

a_reopening_answers_no_other_number : ¬ Step (loads stored) after_fault reopen (ok 2) reopened
a_reopening_answers_no_other_number step =
    let two : 2 ≡ 1 = step.1.0 in
    absurd (omega (arith, two))

a_reopening_of_a_state_is_not_refused :
    ¬ Step (loads stored) after_fault reopen (refused (not_formed superblock 0)) after_fault
a_reopening_of_a_state_is_not_refused step = step.1

a_reopening_begins_a_history : reopened.core.timeline.history ≡ []
a_reopening_begins_a_history = refl

what_a_reopening_finds_is_safe : reopened.core.safe ≡ 1
what_a_reopening_finds_is_safe = refl

what_was_not_synced_is_lost : reply reopened a_get ≡ none
what_was_not_synced_is_lost = ap (λ (held : Option (List ℕ)). answer_named reopened (found_value held)) (get-empty (slice_cmp nat_cmp) (codes "a"))

a_reopened_engine_takes_writes : refusal reopened a_put ≡ None
unfolding normal_form
a_reopened_engine_takes_writes = refl

its_next_number_follows : reply reopened a_put ≡ ok 2
its_next_number_follows = refl

-- ---- a reopening that finds none

a_place_that_is_not_formed_is_answered :
    answer_of (breaks_off (manifest_half 1) 10) one_store reopen
    ≡ refused (not_formed (manifest_half 1) 10)
a_place_that_is_not_formed_is_answered = refl

all_stays_as_it_was :
    led_to (breaks_off (manifest_half 1) 10) one_store reopen (refused (not_formed (manifest_half 1) 10))
    ≡ one_store
all_stays_as_it_was = refl

the_place_is_the_first :
    ¬ Step (breaks_off (manifest_half 1) 10) one_store reopen (refused (not_formed (manifest_half 1) 11)) one_store
the_place_is_the_first step =
    let other : 11 ≡ 10 = step.1.1 in
    absurd (omega (arith, other))

a_refused_reopening_does_not_break :
    ¬ Step (breaks_off superblock 0) one_store reopen (refused (not_formed superblock 0)) (failed one_store)
a_refused_reopening_does_not_break step = absurd (true≢false (ap (λ (s : Script). s.core.is_broken) step.1.2))

writes_go_on :
    refusal (led_to (breaks_off superblock 0) one_store reopen (refused (not_formed superblock 0))) a_put
    ≡ None
unfolding normal_form
writes_go_on = refl

another_version_is_answered : answer_of (has_version 2) one_store reopen ≡ refused (other_version 2)
another_version_is_answered = refl

another_version_is_a_step : Step (has_version 2) one_store reopen (refused (other_version 2)) one_store
another_version_is_a_step = (refl, (refl, refl))

another_version_loads_nothing : (number : ℕ) → ¬ Step (has_version 2) one_store reopen (ok number) one_store
another_version_loads_nothing number step = step.1

-- ---- a reopening that meets a device fault

a_reopening_may_fail : (found : Found) → Step found one_store reopen device_fault (failed one_store)
a_reopening_may_fail (loads m) = (refl, refl)
a_reopening_may_fail (breaks_off part place) = (refl, refl)
a_reopening_may_fail (has_version version) = (refl, refl)

a_failed_reopening_breaks : refusal (led_to (loads stored) one_store reopen device_fault) a_put ≡ Some broken
unfolding normal_form
a_failed_reopening_breaks = refl

-- ---- want of memory

a_line_may_be_refused_memory : (found : Found) → Step found one_store a_put no_memory one_store
a_line_may_be_refused_memory found = refl

a_silent_line_takes_none : (found : Found) → ¬ Step found one_store silent no_memory one_store
a_silent_line_takes_none found step = step
