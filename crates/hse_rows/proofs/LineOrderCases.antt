-- Small cases of the order of refusals, worked by hand: the lines of transactions, cursors and jobs, from a machine that has
-- every cause to one that has none.
use Rattle.std.proofs.Common.{◌≡◌, ℕ, ◌+◌, Bool, true, false, List, [], ◌∷◌, map, Some, None, refl}
use Rattle.std.specs.Prelude.{codes, replicate}
use Rattle.std.specs.List.{range_with_len}
use Rattle.hse_rows.specs.declared.store.Mode.TheVariants.{Plain, Tx}
use Rattle.hse_rows.specs.declared.change.Change.TheVariants.{Put}
use Rattle.hse_rows.specs.writes.Change.{write_of}
use Rattle.hse_rows.specs.writes.NormalForm.{normal_form}
use Rattle.hse_rows.specs.states.History.{new_store}
use Rattle.hse_rows.specs.transactions.Transaction.{begins, staged, ended, aborted}
use Rattle.hse_rows.specs.machine.Log.{Frozen, LogState, new_log}
use Rattle.hse_rows.specs.rows.Layout.{NewSet}
use Rattle.hse_rows.specs.script.Cursor.{forward, front}
use Rattle.hse_rows.specs.rows.Job.{keys, values, spill, ingest, of_run, Work, ingesting, on_run, JobState, picked, built, Job}
use Rattle.hse_rows.specs.machine.Turn.{freeze, syncing, settles, Turn, home, taken}
use Rattle.hse_rows.specs.machine.Replies.{name_used, no_name, ended_by, by_abort, no_store, store_mode, key_length, value_length, broken, too_many, spent, busy, manifest_full, txn_size, log_full, log_busy, full, node_busy, canceled_held, depth, no_run, job_state}
use Rattle.hse_rows.specs.machine.Core.{new_manifest}
use Rattle.hse_rows.specs.script.ScriptLines.{someone, commit, open_cursor, pick, take_install, turn}
use Rattle.hse_rows.specs.script.Script.{Script}
use Rattle.hse_rows.specs.script.ScriptRefusal.{refusal}
use Rattle.hse_rows.proofs.CaseLines.{loaded, with_manifest}
use Rattle.hse_rows.proofs.MachineCases.{small, one_store}
use Rattle.hse_rows.proofs.OrderCases.{full_half}
use Rattle.hse_rows.proofs.RowCases.{put_in, a, b, s, one}

abbrev c : List ℕ
c = codes "c"

-- ---- transactions: a has put the key a of s, b has nothing, and c was aborted

-- values of two bytes at most, a segment with this much room, this number, broken or not
abbrev with_three : ℕ → ℕ → Bool → Script
with_three room number is_broken =
    let m =
    loaded (record small { slot_size = 66; segment_size = 64 + room })
    (record { number = number; stores = new_store 1 s Tx 0 ∷ new_store 2 b Plain 0 ∷ [] }) new_log new_manifest in
    record m {
      core = record m.core {
        timeline = record m.core.timeline {
          begun =
              staged (begins 0 number) (write_of (record { 0 = 1 }) (Put a one)) ∷ begins 1 number
              ∷ ended (begins 2 number) aborted ∷ [];
        };
        is_broken = is_broken;
      };
      begun_names = a ∷ b ∷ c ∷ [];
    }

puts_tell_in_order :
    map (refusal (with_three 60 9 true))
    (put_in (codes "d") (codes "t") [] (codes "123") ∷ put_in c (codes "t") [] (codes "123") ∷ put_in b (codes "t") [] (codes "123")
    ∷ put_in b b [] (codes "123") ∷ put_in b s [] (codes "123") ∷ put_in b s a (codes "123") ∷ put_in b s a one ∷ [])
    ≡ Some no_name ∷ Some (ended_by by_abort) ∷ Some no_store ∷ Some store_mode ∷ Some (key_length 0) ∷ Some (value_length 3)
    ∷ Some broken ∷ []
puts_tell_in_order = refl

then_the_size : refusal (with_three 60 9 false) (put_in b s a one) ≡ Some (txn_size 61 60)
unfolding normal_form
then_the_size = refl

then_the_holder : refusal (with_three 61 9 false) (put_in b s a one) ≡ Some (canceled_held a)
unfolding normal_form
then_the_holder = refl

then_none : refusal (with_three 61 9 false) (put_in b s b one) ≡ None
unfolding normal_form
then_none = refl

commits_tell_in_order :
    map (refusal (with_three 60 4611686018427387904 true)) (commit (codes "d") ∷ commit c ∷ commit a ∷ commit b ∷ [])
    ≡ Some no_name ∷ Some (ended_by by_abort) ∷ Some broken ∷ None ∷ []
unfolding normal_form
commits_tell_in_order = refl

then_the_number : refusal (with_three 60 4611686018427387904 false) (commit a) ≡ Some spent
unfolding normal_form
then_the_number = refl

then_the_room : refusal (with_three 60 9 false) (commit a) ≡ Some (log_full 61 60)
unfolding normal_form
then_the_room = refl

-- ---- cursors: as many as may be, and one of them by name

abbrev with_cursors : ℕ → Script
with_cursors count =
    record (with_three 60 9 true) {
      core = record (with_three 60 9 true).core { cursors = count };
      cursors = record {
        name = c;
        cursor = record {
          owner = None;
          store = 1;
          direction = forward;
          prefix = [];
          contents = (new_store 1 s Tx 0).contents;
          position = front;
          last = None;
        };
      } ∷ [];
    }

-- a filter that is too long
unfoldable long : List ℕ
long = replicate 1345 97

cursors_tell_in_order :
    map (refusal (with_cursors 1024))
    (open_cursor c (someone (codes "d")) (codes "t") forward long ∷ open_cursor a (someone (codes "d")) (codes "t") forward long
    ∷ open_cursor a (someone c) (codes "t") forward long ∷ open_cursor a (someone b) (codes "t") forward long
    ∷ open_cursor a (someone b) s forward long ∷ open_cursor a (someone b) s forward [] ∷ [])
    ≡ Some name_used ∷ Some no_name ∷ Some (ended_by by_abort) ∷ Some no_store ∷ Some (key_length 1345) ∷ Some (too_many 1024) ∷ []
unfolding long
cursors_tell_in_order = refl

-- ---- picks: jobs of the name i on one node of depth 4

abbrev deep : List ℕ
deep = 0 ∷ 1 ∷ 2 ∷ 3 ∷ []

abbrev job_of : Work → ℕ → Job
job_of work id = record { id = id; work = work; state = picked; sets = [] }

abbrev on_deep : Work
on_deep = on_run (record { kind = values; store = 1; prefix_length = 0; path = deep; older = 0; len = 1; last = false })

abbrev with_jobs : Bool → Work → ℕ → Script
with_jobs is_broken work count =
    record one_store {
      core = record one_store.core { is_broken = is_broken; jobs = map (job_of work) (range_with_len 0 count); picked = count };
      picked_names = replicate count (codes "i");
    }

picks_tell_in_order :
    map (refusal (with_jobs true on_deep 64))
    (pick (codes "i") (of_run spill (codes "t") deep 0 1) ∷ pick (codes "k") (of_run spill (codes "t") deep 0 1)
    ∷ pick (codes "k") (of_run spill s deep 0 1) ∷ [])
    ≡ Some name_used ∷ Some no_store ∷ Some broken ∷ []
picks_tell_in_order = refl

then_how_many : refusal (with_jobs false on_deep 64) (pick (codes "k") (of_run spill s deep 0 1)) ≡ Some (too_many 64)
then_how_many = refl

then_the_claim : refusal (with_jobs false on_deep 63) (pick (codes "k") (of_run spill s deep 0 1)) ≡ Some (node_busy (codes "i"))
then_the_claim = refl

then_the_depth : refusal (with_jobs false on_deep 0) (pick (codes "k") (of_run spill s deep 0 1)) ≡ Some (depth 4)
then_the_depth = refl

then_the_run : refusal (with_jobs false on_deep 0) (pick (codes "k") (of_run keys s deep 0 1)) ≡ Some (no_run 0)
then_the_run = refl

picks_of_ingests_tell_in_order :
    map (λ m. refusal m (pick (codes "k") ingest))
    (with_jobs true ingesting 64 ∷ with_jobs false ingesting 64 ∷ with_jobs false ingesting 63 ∷ with_jobs false on_deep 63 ∷ [])
    ≡ Some broken ∷ Some (too_many 64) ∷ Some (node_busy (codes "i")) ∷ Some (no_run 0) ∷ []
picks_of_ingests_tell_in_order = refl

-- ---- takes

-- A compaction that has a set of two blocks, after which the whole state takes 5 + 25 + 16 + 29 bytes: with so many slots used, broken or not, and a turn
abbrev new_set : NewSet
new_set = record { store = 1; path = deep; set = record { rows = []; prefix_blocks = 0; key_blocks = 1; value_blocks = 1 } }

abbrev to_install : JobState → ℕ → Bool → Turn → Script
to_install state used is_broken out =
    let m = with_manifest one_store full_half in
    record m {
      core = record m.core {
        used_slots = used;
        is_broken = is_broken;
        turn = out;
        jobs = record { id = 0; work = on_deep; state = state; sets = new_set ∷ [] } ∷ [];
        picked = 1;
      };
      picked_names = codes "i" ∷ [];
    }

abbrev a_turn : Turn
a_turn = taken (record { kind = syncing; number = 1; plan = settles; calls = true })

installs_tell_in_order :
    map (λ m. refusal m (take_install (codes "i")))
    (one_store ∷ to_install picked 63 true a_turn ∷ to_install built 63 true a_turn ∷ to_install built 63 false a_turn
    ∷ to_install built 63 false home ∷ to_install built 62 false home ∷ [])
    ≡ Some no_name ∷ Some (job_state picked) ∷ Some broken ∷ Some (busy syncing) ∷ Some (full 2 1)
    ∷ Some (manifest_full 75 65526) ∷ []
unfolding full_half
installs_tell_in_order = refl

-- a log, broken or not, and a turn
abbrev with_log : LogState → Bool → Turn → Script
with_log log is_broken out =
    record one_store { core = record one_store.core { log = log; is_broken = is_broken; turn = out } }

abbrev layer : Frozen
layer = record { last = 1; commits = [] }

abbrev three_frozen : LogState
three_frozen =
    record new_log { frozen = layer ∷ layer ∷ layer ∷ []; active = record { number = 2; writes = [] } ∷ [] }

freezes_tell_in_order :
    map (λ m. refusal m (turn freeze))
    (with_log three_frozen true a_turn ∷ with_log three_frozen false a_turn ∷ with_log three_frozen false home
    ∷ with_log (record three_frozen { active = [] }) false home ∷ [])
    ≡ Some broken ∷ Some (busy syncing) ∷ Some log_busy ∷ None ∷ []
freezes_tell_in_order = refl
