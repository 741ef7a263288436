-- Small cases of jobs that are refused after their pick, the calls of lines, and what log and manifest record, worked by hand.
use Rattle.std.proofs.Common.{◌≡◌, inl, inr, ℕ, ◌≤◌, [], ◌∷◌, refl, arith}
use Rattle.std.specs.Prelude.{codes}
use Rattle.hse_rows.specs.declared.store.Mode.TheVariants.{Plain}
use Rattle.hse_rows.specs.writes.NormalForm.{normal_form}
use Rattle.hse_rows.specs.rows.Newest.{newest}
use Rattle.hse_rows.specs.machine.Sizes.{Sizes}
use Rattle.hse_rows.specs.rows.Job.{ingest}
use Rattle.hse_rows.specs.machine.Turn.{freeze, create, Turn, home, taken, ran}
use Rattle.hse_rows.specs.machine.Replies.{accepted, broken, device_fault, full, node_busy, ok, refused, written}
use Rattle.hse_rows.specs.machine.Calls as call
use Rattle.hse_rows.specs.machine.Core.{formatted, life}
use Rattle.hse_rows.specs.machine.Recorded.{taken_in, due, IsRecorded, IsInOrder}
use Rattle.hse_rows.specs.script.ScriptLines.{pick, build, take, take_install, turn, job, auto}
use Rattle.hse_rows.specs.script.Script.{Script}
use Rattle.hse_rows.specs.script.ScriptDone.{failing, once_picked}
use Rattle.hse_rows.specs.script.ScriptStep.{LacksMemory}
use Rattle.hse_rows.specs.script.ScriptCalls.{told_by, calls_of}
use Rattle.hse_rows.specs.laws.ScriptLaws.{IsLoadable}
use Rattle.hse_rows.proofs.RowCases.{device, started, led, answers, put_out, a, b, s, one}

-- ---- jobs that are refused after their pick

abbrev of_one_slot : Sizes
of_one_slot = record device { slots = 1 }

-- a layer whose ingest has no room
abbrev without_room : Script
without_room = led (started of_one_slot) (turn (create s Plain 0) ∷ put_out s a one ∷ turn freeze ∷ [])

it_is_refused : answers without_room (job ingest ∷ auto ∷ []) ≡ refused (full 2 1) ∷ refused (full 2 1) ∷ []
unfolding normal_form newest
it_is_refused = refl

it_was_picked : (led without_room (job ingest ∷ auto ∷ [])).core.picked ≡ 2
unfolding normal_form newest
it_was_picked = refl

it_is_gone : (led without_room (job ingest ∷ [])).core.jobs ≡ []
unfolding normal_form newest
it_is_gone = refl

it_has_no_name : (led without_room (job ingest ∷ [])).picked_names ≡ [] ∷ []
unfolding normal_form newest
it_has_no_name = refl

the_next_one_has_its_name :
    answers without_room (job ingest ∷ pick (codes "j") ingest ∷ pick (codes "i") ingest ∷ [])
    ≡ refused (full 2 1) ∷ accepted ∷ refused (node_busy (codes "j")) ∷ []
unfolding normal_form newest
the_next_one_has_its_name = refl

one_that_is_not_picked_is_not_counted : led (started device) (job ingest ∷ []) ≡ started device
one_that_is_not_picked_is_not_counted = refl

want_of_memory_may_come_before_the_pick : LacksMemory without_room (job ingest) without_room
want_of_memory_may_come_before_the_pick = inl refl

or_after_it : LacksMemory without_room (job ingest) (once_picked without_room)
unfolding normal_form
or_after_it = inr refl

-- ---- the calls of lines

a_job_is_five_calls :
    calls_of (started device) (job ingest)
    ≡ call.pick ingest ∷ call.build 0 ∷ call.take_install 0 ∷ call.write_turn ∷ call.end_turn ∷ []
a_job_is_five_calls = refl

where_nothing_comes_next_there_is_none : calls_of (started device) auto ≡ []
where_nothing_comes_next_there_is_none = refl

-- ---- the number of an install's turn

abbrev number_out : Turn → ℕ
number_out home = 0
number_out (taken t) = t.number
number_out (ran t has_failed) = t.number

an_install_makes_nothing_safe :
    number_out
    (led (started device)
    (turn (create s Plain 0) ∷ put_out s a one ∷ turn freeze ∷ put_out s b one ∷ pick (codes "j") ingest ∷ build (codes "j")
    ∷ take_install (codes "j") ∷ [])).core.turn
    ≡ 2
unfolding normal_form newest
an_install_makes_nothing_safe = refl

-- ---- what the manifest records

a_creation_is_due_while_its_turn_is_out : due (led (started device) (take (create s Plain 0) ∷ [])).core.turn ≡ 1 ∷ []
a_creation_is_due_while_its_turn_is_out = refl

and_then_it_is_in_the_manifest : (led (started device) (turn (create s Plain 0) ∷ [])).core.manifest.taken ≡ 1 ∷ []
and_then_it_is_in_the_manifest = refl

until_an_ingest_passes_it :
    (led (started device) (turn (create s Plain 0) ∷ put_out s a one ∷ turn freeze ∷ job ingest ∷ [])).core.manifest.taken ≡ []
unfolding normal_form newest
until_an_ingest_passes_it = refl

-- a creation whose device call failed is an event that the manifest has not
abbrev broken_creation : Script
broken_creation = failing (started device) (turn (create s Plain 0))

it_is_an_event : taken_in 1 broken_creation.core.timeline.history ≡ 1 ∷ []
it_is_an_event = refl

the_manifest_has_it_not : broken_creation.core.manifest.taken ≡ []
the_manifest_has_it_not = refl

-- calls in a row tell the first answer that is not of one that was done, or else the last
a_fault_tells : told_by accepted (device_fault ∷ refused broken ∷ []) ≡ device_fault
a_fault_tells = refl

the_last_tells : told_by accepted (written ∷ ok 3 ∷ []) ≡ ok 3
the_last_tells = refl

a_new_device_is_in_order : IsInOrder (formatted device)
a_new_device_is_in_order = record { layers = omega arith; active = omega arith; taken = tt }

-- a log with a commit that the horizon passed is in no order
a_commit_that_is_not_above_it_is_not : ¬ IsInOrder (record (formatted device) {
  base = record { number = 1; stores = [] };
  log = record { horizon = 1; first_segment = 2; frozen = []; active = record { number = 1; writes = [] } ∷ [] };
})
a_commit_that_is_not_above_it_is_not ordered =
    let above : 2 ≤ 1 = ordered.active.0 in
    absurd (omega (arith, above))

-- and within the limits, so that each script on it is sound
it_may_be_loaded : IsLoadable (formatted device)
it_may_be_loaded = record {
  limits = record {
    history = record { numbers = omega arith; stores = omega arith };
    log = record { room = omega arith; layers = omega arith; frozen = tt; segments = omega arith };
    manifest = record { used = omega arith; sequence = omega arith };
    slots = omega arith;
    since_base = omega arith;
    until_now = omega arith;
    transactions = record { live = omega arith; begins = omega arith };
    jobs = record { live = omega arith; ids = omega arith; claims = tt };
    cursors = omega arith;
    turn = tt;
  };
  order = a_new_device_is_in_order;
  state = record { rising = tt; named = tt };
}

-- a manifest with a number that no event took is of no life
another_number_is_not_recorded : ¬ IsRecorded (formatted device) (record (life (formatted device)) {
  manifest = record { sequence = 1; used = 0; taken = 1 ∷ [] };
})
another_number_is_not_recorded recorded = absurd (let no : 1 ∷ [] ≡ [] = recorded.manifest refl in cc)
