-- Small cases of phases, device faults within a turn, cursors' names and what is left of the table, worked by hand.
use Rattle.std.proofs.Common.{◌≡◌, [], ◌∷◌, refl}
use Rattle.std.specs.Prelude.{codes}
use Rattle.hse_rows.specs.declared.store.Mode.TheVariants.{Plain, Tx}
use Rattle.hse_rows.specs.writes.NormalForm.{normal_form}
use Rattle.hse_rows.specs.rows.Newest.{newest}
use Rattle.hse_rows.specs.script.Cursor.{forward, backward}
use Rattle.hse_rows.specs.rows.Job.{ingest, of_run, spill, built}
use Rattle.hse_rows.specs.machine.Turn.{sync, freeze, create, is_home, is_run}
use Rattle.hse_rows.specs.machine.Replies.{accepted, ok, written, refused, name_used, no_name, ended_by, by_abort, no_store, broken, turn_is, forward_only, depth, job_state}
use Rattle.hse_rows.specs.script.ScriptLines.{nobody, someone, begin, abort, open_cursor, seek_range, close_cursor, pick, build, take, take_install, write_turn, end_turn, turn, job}
use Rattle.hse_rows.specs.script.Script.{Script}
use Rattle.hse_rows.specs.script.ScriptDone.{failing}
use Rattle.hse_rows.proofs.RowCases.{device, started, led, answers, put_in, put_out, a, b, s, one}

-- a store with one put that waits for the device, and a sync that was taken
abbrev sync_taken : Script
sync_taken = led (started device) (turn (create s Plain 0) ∷ put_out s a one ∷ take sync ∷ [])

a_written_turn_is_not_written_again :
    answers sync_taken (write_turn ∷ write_turn ∷ end_turn ∷ end_turn ∷ [])
    ≡ written ∷ refused (turn_is is_run) ∷ ok 2 ∷ refused (turn_is is_home) ∷ []
unfolding normal_form
a_written_turn_is_not_written_again = refl

an_end_after_a_fault_gives_the_turn_back :
    answers (failing sync_taken write_turn) (put_out s b one ∷ end_turn ∷ end_turn ∷ turn sync ∷ [])
    ≡ refused broken ∷ refused broken ∷ refused (turn_is is_home) ∷ refused broken ∷ []
unfolding normal_form
an_end_after_a_fault_gives_the_turn_back = refl

-- an ingest whose install was taken
abbrev pub install_taken : Script
install_taken =
    led (started device)
    (turn (create s Plain 0) ∷ put_out s a one ∷ turn freeze ∷ pick (codes "j") ingest ∷ build (codes "j") ∷ take_install (codes "j") ∷ [])

a_job_whose_install_failed_is_gone :
    answers (failing install_taken write_turn) (end_turn ∷ build (codes "j") ∷ [])
    ≡ refused broken ∷ refused no_name ∷ []
unfolding normal_form newest
a_job_whose_install_failed_is_gone = refl

its_blocks_stay_used : (led (failing install_taken write_turn) (end_turn ∷ [])).core.used_slots ≡ 2
unfolding normal_form newest
its_blocks_stay_used = refl

a_built_job_is_not_built_again :
    answers (started device)
    (turn (create s Plain 0) ∷ put_out s a one ∷ turn freeze ∷ pick (codes "j") ingest ∷ build (codes "j") ∷ build (codes "j")
    ∷ pick (codes "j") ingest ∷ [])
    ≡ ok 1 ∷ ok 2 ∷ ok 2 ∷ accepted ∷ ok 2 ∷ refused (job_state built) ∷ refused name_used ∷ []
unfolding normal_form newest
a_built_job_is_not_built_again = refl

nodes_of_depth_4_are_not_spilled :
    answers (started device) (turn (create s Plain 0) ∷ job (of_run spill s (0 ∷ 1 ∷ 2 ∷ 3 ∷ []) 0 1) ∷ [])
    ≡ ok 1 ∷ refused (depth 4) ∷ []
nodes_of_depth_4_are_not_spilled = refl

cursors_have_names :
    answers (started device)
    (turn (create s Tx 0) ∷ open_cursor a nobody s backward [] ∷ open_cursor a nobody s forward [] ∷ open_cursor b nobody (codes "t") forward []
    ∷ seek_range a a b ∷ close_cursor a ∷ close_cursor a ∷ [])
    ≡ ok 1 ∷ accepted ∷ refused name_used ∷ refused no_store ∷ refused forward_only ∷ accepted ∷ refused no_name ∷ []
cursors_have_names = refl

an_ended_transaction_makes_no_cursor :
    answers (started device)
    (turn (create s Tx 0) ∷ begin a ∷ abort a ∷ open_cursor b (someone a) s forward [] ∷ put_in a s b one ∷ [])
    ≡ ok 1 ∷ ok 1 ∷ accepted ∷ refused (ended_by by_abort) ∷ refused (ended_by by_abort) ∷ []
an_ended_transaction_makes_no_cursor = refl
