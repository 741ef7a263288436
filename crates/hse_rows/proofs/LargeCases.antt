-- Small cases of long keys and values, worked by hand: what a store takes of them, and a segment of the log.
use Rattle.std.proofs.Common.{◌≡◌, ℕ, List, [], ◌∷◌, refl}
use Rattle.std.specs.Prelude.{codes, replicate}
use Rattle.hse_rows.specs.declared.store.Mode.TheVariants.{Plain, Tx}
use Rattle.hse_rows.specs.declared.change.Change.TheVariants.{Del}
use Rattle.hse_rows.specs.writes.NormalForm.{normal_form}
use Rattle.hse_rows.specs.script.Cursor.{forward}
use Rattle.hse_rows.specs.machine.Turn.{freeze, create}
use Rattle.hse_rows.specs.machine.Replies.{accepted, ok, refused, key_length, value_length, txn_size, log_full}
use Rattle.hse_rows.specs.script.ScriptLines.{nobody, begin, write_by, commit, open_cursor, seek_range, turn}
use Rattle.hse_rows.proofs.RowCases.{device, started, answers, put_in, put_out, a, b, s, one}

-- so many bytes
unfoldable letters : ℕ → List ℕ
letters count = replicate count 107

a_store_takes_keys_of_1344_bytes :
    answers (started device)
    (turn (create s Plain 0) ∷ put_out s (letters 1344) one ∷ put_out s (letters 1345) one ∷ write_by nobody s (Del (letters 1345)) ∷ [])
    ≡ ok 1 ∷ ok 2 ∷ refused (key_length 1345) ∷ refused (key_length 1345) ∷ []
unfolding normal_form letters
a_store_takes_keys_of_1344_bytes = refl

a_cursor_has_a_filter_and_a_range_of_1344_bytes :
    answers (started device)
    (turn (create s Plain 0) ∷ open_cursor a nobody s forward (letters 1345) ∷ open_cursor a nobody s forward (letters 1344)
    ∷ seek_range a [] (letters 1345) ∷ seek_range a (letters 1346) (letters 1345) ∷ [])
    ≡ ok 1 ∷ refused (key_length 1345) ∷ accepted ∷ refused (key_length 1345) ∷ refused (key_length 1346) ∷ []
unfolding letters
a_cursor_has_a_filter_and_a_range_of_1344_bytes = refl

a_store_takes_values_of_65472_bytes :
    answers (started device)
    (turn (create s Plain 0) ∷ put_out s a (letters 65472) ∷ put_out s a (letters 65473) ∷ [])
    ≡ ok 1 ∷ ok 2 ∷ refused (value_length 65473) ∷ []
unfolding normal_form letters
a_store_takes_values_of_65472_bytes = refl

-- a put is charged 60,060 of 262,080
a_segment_takes_four_of_60060 :
    answers (started device)
    (turn (create s Plain 0) ∷ put_out s a (letters 60000) ∷ put_out s b (letters 60000) ∷ put_out s (codes "c") (letters 60000)
    ∷ put_out s (codes "d") (letters 60000) ∷ put_out s (codes "e") (letters 60000) ∷ turn freeze ∷ put_out s (codes "e") (letters 60000) ∷ [])
    ≡ ok 1 ∷ ok 2 ∷ ok 3 ∷ ok 4 ∷ ok 5 ∷ refused (log_full 60060 21840) ∷ ok 5 ∷ ok 6 ∷ []
unfolding normal_form letters
a_segment_takes_four_of_60060 = refl

-- five are 12 + 5 * 60016 + 32
a_transaction_takes_four :
    answers (started device)
    (turn (create s Tx 0) ∷ begin a ∷ put_in a s a (letters 60000) ∷ put_in a s b (letters 60000) ∷ put_in a s (codes "c") (letters 60000)
    ∷ put_in a s (codes "d") (letters 60000) ∷ put_in a s (codes "e") (letters 60000) ∷ put_in a s a one
    ∷ put_in a s (codes "e") (letters 60000) ∷ commit a ∷ [])
    ≡ ok 1 ∷ ok 1 ∷ accepted ∷ accepted ∷ accepted ∷ accepted ∷ refused (txn_size 300124 262080) ∷ accepted ∷ accepted ∷ ok 2 ∷ []
unfolding normal_form letters
a_transaction_takes_four = refl
