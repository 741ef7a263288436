-- Small cases of the machine, worked by hand. Contents do not compute: what a key holds is read by the laws.
use Rattle.std.proofs.Common.{◌≡◌, ℕ, ◌+◌, ◌==◌, ◌||◌, nat_lt, List, [], ◌∷◌, length, Some, None, refl, ap}
use Rattle.std.specs.Prelude.{codes}
use Rattle.hse_rows.specs.declared.store.Mode.TheVariants.{Plain, Tx}
use Rattle.hse_rows.specs.declared.change.Change.TheVariants.{Put}
use Rattle.hse_rows.specs.writes.NormalForm.{normal_form}
use Rattle.hse_rows.specs.writes.Charge.{charge_of}
use Rattle.hse_rows.specs.machine.Sizes.{Sizes}
use Rattle.hse_rows.specs.machine.ManifestRoom.{gained}
use Rattle.hse_rows.specs.machine.Replies.{bad_line, store_exists, no_store, store_mode, key_length, value_length, prefix_length, broken, log_full, txn_size, ok, listed, figures}
use Rattle.hse_rows.specs.writes.Lengths.{longest_key}
use Rattle.hse_rows.specs.machine.Core.{Core, whole_room, left_room, longest_value}
use Rattle.hse_rows.specs.machine.CoreRefusal.{refuse, key_refusal, value_refusal, size_refusal, room_refusal}
use Rattle.hse_rows.specs.script.ScriptLines.{Line, list_stores, get, info, bad}
use Rattle.hse_rows.specs.script.Script.{Script}
use Rattle.hse_rows.specs.script.ScriptRefusal.{refusal}
use Rattle.hse_rows.specs.script.ScriptDone.{reply, done, failing}
use Rattle.hse_rows.proofs.CaseLines.{outside, create_store, drop_store, put, formatted, failed, number_of}

-- 64 slots of 65,536 bytes, halves of 65,536 and segments of 262,144
abbrev pub small : Sizes
small = record { slot_size = 65536; slots = 64; half_size = 65536; segment_size = 262144; most_stores = 256 }

abbrev pub fresh : Script
fresh = formatted small

abbrev pub one_store : Script
one_store = done fresh (create_store (codes "s") Plain 0)

abbrev pub a_put : Line
a_put = put outside (codes "s") (codes "a") (codes "1")

a_creation_is_refused_by_nothing : refusal fresh (create_store (codes "s") Plain 0) ≡ None
a_creation_is_refused_by_nothing = refl

the_first_event_is_1 : reply fresh (create_store (codes "s") Plain 0) ≡ ok 1
the_first_event_is_1 = refl

a_name_is_taken_once : refusal one_store (create_store (codes "s") Tx 33) ≡ Some store_exists
a_name_is_taken_once = refl

a_prefix_has_32_bytes : refusal fresh (create_store (codes "s") Plain 33) ≡ Some (prefix_length 33)
a_prefix_has_32_bytes = refl

no_store_has_the_name : refusal fresh (get outside (codes "s") (codes "a")) ≡ Some no_store
no_store_has_the_name = refl

a_key_has_a_byte : refusal one_store (get outside (codes "s") []) ≡ Some (key_length 0)
a_key_has_a_byte = refl

nothing_refuses_a_put : refusal one_store a_put ≡ None
unfolding normal_form
nothing_refuses_a_put = refl

the_second_event_is_2 : reply one_store a_put ≡ ok 2
the_second_event_is_2 = refl

the_store_is_listed :
    reply one_store list_stores
    ≡ listed (record { name = codes "s"; mode = Plain; prefix_length = 0 } ∷ [])
the_store_is_listed = refl

a_fresh_device_has_these_figures :
    reply fresh info ≡ figures (record { number = 0; frozen = 0; charge = 0; free = 64; manifest = 1 })
a_fresh_device_has_these_figures = refl

a_put_is_charged :
    reply (done one_store a_put) info
    ≡ figures (record { number = 2; frozen = 0; charge = 61; free = 64; manifest = 1 })
unfolding normal_form
a_put_is_charged = refl

a_dropped_store_is_gone : refusal (done one_store (drop_store (codes "s"))) a_put ≡ Some no_store
a_dropped_store_is_gone = refl

a_drop_is_an_event : number_of (done one_store (drop_store (codes "s"))) ≡ 2
a_drop_is_an_event = refl

a_transaction_s_store_takes_no_write_outside :
    refusal (done fresh (create_store (codes "s") Tx 0)) a_put
    ≡ Some store_mode
a_transaction_s_store_takes_no_write_outside = refl

a_broken_engine_refuses_writes : refusal (failed one_store) a_put ≡ Some broken
a_broken_engine_refuses_writes = refl

a_broken_engine_reads : refusal (failed one_store) (get outside (codes "s") (codes "a")) ≡ None
a_broken_engine_reads = refl

a_failed_creation_has_happened : number_of (failing fresh (create_store (codes "s") Plain 0)) ≡ 1
a_failed_creation_has_happened = refl

a_line_outside_the_grammar_is_refused : refusal fresh bad ≡ Some bad_line
a_line_outside_the_grammar_is_refused = refl

-- ---- lengths and charges at their limits

a_value_of_60000_bytes_takes_60060 : (value : List ℕ) → length value ≡ 60000
    → charge_of (record { store = record { 0 = 1 }; change = Put (codes "a") value } ∷ []) ≡ 60060
a_value_of_60000_bytes_takes_60060 value long = ap (λ (n : ℕ). 12 + (0 + (15 + 1 + n)) + 32) long

-- ---- the manifest

a_new_half_has_40_bytes_used : fresh.core.manifest.used ≡ 40
a_new_half_has_40_bytes_used = refl

a_creation_takes_18_bytes : one_store.core.manifest.used ≡ 58
a_creation_takes_18_bytes = refl

a_drop_takes_22_bytes : (done one_store (drop_store (codes "s"))).core.manifest.used ≡ 80
a_drop_takes_22_bytes = refl

-- with 16 bytes left a creation starts the other half
a_full_half_rolls :
    gained 65536 (record { sequence = 1; used = 65520; taken = [] }) 18 26246 (1 ∷ [])
    ≡ record { sequence = 2; used = 26256; taken = 1 ∷ [] }
a_full_half_rolls = refl

-- ---- refusals at their limits

a_value_of_65472_bytes_is_taken : (bytes : List ℕ) → length bytes ≡ 65472 → value_refusal small bytes None ≡ None
a_value_of_65472_bytes_is_taken bytes long =
    ap (λ (n : ℕ). refuse (nat_lt (longest_value small) n) (value_length n) None) long

one_byte_more_is_refused :
    (bytes : List ℕ) → length bytes ≡ 65473 → value_refusal small bytes None
    ≡ Some (value_length 65473)
one_byte_more_is_refused bytes long =
    ap (λ (n : ℕ). refuse (nat_lt (longest_value small) n) (value_length n) None) long

a_key_of_1344_bytes_is_taken : (key : List ℕ) → length key ≡ 1344 → key_refusal key None ≡ None
a_key_of_1344_bytes_is_taken key long =
    ap (λ (n : ℕ). refuse ((n == 0) || nat_lt longest_key n) (key_length n) None) long

a_key_of_1345_bytes_is_refused : (key : List ℕ) → length key ≡ 1345 → key_refusal key None ≡ Some (key_length 1345)
a_key_of_1345_bytes_is_refused key long =
    ap (λ (n : ℕ). refuse ((n == 0) || nat_lt longest_key n) (key_length n) None) long

-- where 240,240 bytes of a segment of 262,144 are taken
a_fifth_commit_of_60060_has_no_room : (m : Core) → left_room m ≡ 21840 → room_refusal m 60060 ≡ Some (log_full 60060 21840)
a_fifth_commit_of_60060_has_no_room m left = ap (λ (n : ℕ). refuse (nat_lt n 60060) (log_full 60060 n) None) left

a_commit_larger_than_a_segment_is_refused : (m : Core) → whole_room m ≡ 262080
    → size_refusal m 300124 None ≡ Some (txn_size 300124 262080)
a_commit_larger_than_a_segment_is_refused m whole =
    ap (λ (n : ℕ). refuse (nat_lt n 300124) (txn_size 300124 n) None) whole
