-- Small cases of the counts that are limited, worked by hand: transactions, cursors, jobs, stores and begins.
use Rattle.std.proofs.Common.{◌≡◌, ℕ, nat_le, false, ◌||◌, List, [], ◌∷◌, ◌++◌, length, map, Some, None, refl}
use Rattle.std.specs.Prelude.{codes, replicate}
use Rattle.std.specs.List.{range_with_len}
use Rattle.hse_rows.specs.declared.store.Mode.TheVariants.{Plain}
use Rattle.hse_rows.specs.transactions.Transaction.{Transaction, begins, ended, aborted, committed}
use Rattle.hse_rows.specs.machine.Log.{new_log}
use Rattle.hse_rows.specs.script.Cursor.{forward}
use Rattle.hse_rows.specs.rows.Job.{keys, values, ingest, of_run, on_run, Job, picked}
use Rattle.hse_rows.specs.machine.Replies.{name_used, no_store, no_run, too_many, spent}
use Rattle.hse_rows.specs.machine.Calls as call
use Rattle.hse_rows.specs.machine.Core.{Core, live, number_of, most_transactions, greatest_number, new_manifest}
use Rattle.hse_rows.specs.machine.CoreRefusal as core
use Rattle.hse_rows.specs.script.ScriptLines.{nobody, begin, open_cursor, close_cursor, pick}
use Rattle.hse_rows.specs.script.Script.{Script}
use Rattle.hse_rows.specs.script.ScriptRefusal.{refusal}
use Rattle.hse_rows.specs.script.ScriptDone.{done}
use Rattle.hse_rows.proofs.CaseLines.{create_store, loaded, with_sizes}
use Rattle.hse_rows.proofs.MachineCases.{small, fresh, one_store}
use Rattle.hse_rows.proofs.RoomCases.{with_stores}

-- ---- live transactions

-- all these began
abbrev with_begun : List Transaction → Script
with_begun begun =
    record fresh { core = record fresh.core { timeline = record fresh.core.timeline { begun = begun } } }

-- so many that live
unfoldable live_ones : ℕ → List Transaction
live_ones count = map (λ order. begins order 0) (range_with_len 0 count)

a_transaction_above_1024_is_refused : refusal (with_begun (live_ones 1024)) (begin (codes "t")) ≡ Some (too_many 1024)
unfolding live_ones
a_transaction_above_1024_is_refused = refl

the_last_of_1024_begins : refusal (with_begun (live_ones 1023)) (begin (codes "t")) ≡ None
unfolding live_ones
the_last_of_1024_begins = refl

ended_ones_do_not_count :
    refusal (with_begun (live_ones 1023 ++ ended (begins 1023 0) aborted ∷ ended (begins 1024 0) (committed 0) ∷ [])) (begin (codes "t"))
    ≡ None
unfolding live_ones
ended_ones_do_not_count = refl

-- the names of all that live are told first
a_name_is_told_before_the_count :
    refusal (record (with_begun (live_ones 1024)) { begun_names = replicate 1024 (codes "t") }) (begin (codes "t"))
    ≡ Some name_used
unfolding live_ones
a_name_is_told_before_the_count = refl

-- ---- begins since the opening, live or not

the_count_of_begins_is_limited :
    (m : Core) → length (live m) ≡ 3 → number_of m ≡ 7 → length m.timeline.begun ≡ 4611686018427387904
    → core.refusal m call.begin ≡ Some spent
the_count_of_begins_is_limited m few small many i =
    core.refuse (nat_le most_transactions (few i)) (too_many most_transactions)
    (core.refuse (nat_le greatest_number (small i) || nat_le greatest_number (many i)) spent None)

one_begin_less_is_not :
    (m : Core) → length (live m) ≡ 3 → number_of m ≡ 7 → length m.timeline.begun ≡ 4611686018427387903
    → core.refusal m call.begin ≡ None
one_begin_less_is_not m few small many i =
    core.refuse (nat_le most_transactions (few i)) (too_many most_transactions)
    (core.refuse (nat_le greatest_number (small i) || nat_le greatest_number (many i)) spent None)

-- the last number, too
no_transaction_begins_at_the_last_number :
    map (λ number. refusal (loaded small (record { number = number; stores = [] }) new_log new_manifest) (begin (codes "t")))
    (4611686018427387903 ∷ 4611686018427387904 ∷ [])
    ≡ None ∷ Some spent ∷ []
no_transaction_begins_at_the_last_number = refl

-- ---- cursors

abbrev with_cursors : ℕ → Script
with_cursors count = record one_store { core = record one_store.core { cursors = count } }

a_cursor_above_1024_is_refused :
    map (λ count. refusal (with_cursors count) (open_cursor (codes "c") nobody (codes "s") forward [])) (1023 ∷ 1024 ∷ [])
    ≡ None ∷ Some (too_many 1024) ∷ []
a_cursor_above_1024_is_refused = refl

its_store_is_told_before_the_count :
    refusal (with_cursors 1024) (open_cursor (codes "c") nobody (codes "t") forward [])
    ≡ Some no_store
its_store_is_told_before_the_count = refl

a_closed_cursor_makes_room :
    refusal (done (done (with_cursors 1023) (open_cursor (codes "c") nobody (codes "s") forward [])) (close_cursor (codes "c")))
    (open_cursor (codes "d") nobody (codes "s") forward [])
    ≡ None
a_closed_cursor_makes_room = refl

-- ---- jobs, on nodes of another store

abbrev claim : ℕ → Job
claim id = record {
  id = id;
  work = on_run (record { kind = values; store = 9; prefix_length = 0; path = id ∷ []; older = 0; len = 1; last = false });
  state = picked;
  sets = [];
}

unfoldable with_jobs : ℕ → Script
with_jobs count = record one_store { core = record one_store.core { jobs = map claim (range_with_len 0 count); picked = count } }

a_job_above_64_is_refused :
    map (λ count. refusal (with_jobs count) (pick (codes "j") ingest)) (63 ∷ 64 ∷ [])
    ≡ Some (no_run 0) ∷ Some (too_many 64) ∷ []
unfolding with_jobs
a_job_above_64_is_refused = refl

one_on_a_run_too :
    map (λ count. refusal (with_jobs count) (pick (codes "j") (of_run keys (codes "s") [] 0 1))) (63 ∷ 64 ∷ [])
    ≡ Some (no_run 0) ∷ Some (too_many 64) ∷ []
unfolding with_jobs
one_on_a_run_too = refl

the_store_is_told_before_the_count :
    refusal (with_jobs 64) (pick (codes "j") (of_run keys (codes "t") [] 0 1))
    ≡ Some no_store
unfolding with_jobs
the_store_is_told_before_the_count = refl

-- ---- stores: a device may take 4,096

a_device_of_4096_stores_takes_as_many :
    map (λ count. refusal (with_sizes (with_stores count 5000) (record small { most_stores = 4096; half_size = 262144 })) (create_store [] Plain 0))
    (4095 ∷ 4096 ∷ [])
    ≡ None ∷ Some (too_many 4096) ∷ []
unfolding with_stores
a_device_of_4096_stores_takes_as_many = refl
