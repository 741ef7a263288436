-- Small cases of the order of refusals, worked by hand: from a machine that has every cause to one that has none.
use Rattle.std.proofs.Common.{◌≡◌, ℕ, ◌+◌, Bool, true, false, [], ◌∷◌, Some, None, refl}
use Rattle.std.specs.Prelude.{codes}
use Rattle.hse_rows.specs.declared.store.Mode.{Mode}
use Rattle.hse_rows.specs.declared.store.Mode.TheVariants.{Plain, Tx}
use Rattle.hse_rows.specs.declared.change.Change.TheVariants.{Put}
use Rattle.hse_rows.specs.writes.Change.{write_of}
use Rattle.hse_rows.specs.writes.NormalForm.{normal_form}
use Rattle.hse_rows.specs.states.History.{new_store}
use Rattle.hse_rows.specs.machine.Log.{LogState, new_log, logged}
use Rattle.hse_rows.specs.machine.ManifestRoom.{ManifestState}
use Rattle.hse_rows.specs.machine.Replies.{store_exists, no_store, store_mode, key_length, value_length, prefix_length, broken, too_many, spent, manifest_full, txn_size, log_full}
use Rattle.hse_rows.specs.machine.Core.{life, new_manifest}
use Rattle.hse_rows.specs.script.ScriptLines.{get}
use Rattle.hse_rows.specs.script.Script.{Script, begins_with}
use Rattle.hse_rows.specs.script.ScriptRefusal.{refusal}
use Rattle.hse_rows.proofs.CaseLines.{outside, create_store, drop_store, put, del, without_sets}
use Rattle.hse_rows.proofs.MachineCases.{small}
use Rattle.hse_rows.proofs.RoomCases.{with_stores}

-- ---- a creation: as many stores, this number, a half that is full or new, and broken or not

unfoldable pub full_half : ManifestState
full_half = record { sequence = 4611686018427387904; used = 65536; taken = [] }

abbrev creating : ℕ → ℕ → ManifestState → Bool → Script
creating count number manifest is_broken =
    record (with_stores count number) {
      core = record (with_stores count number).core { manifest = manifest; is_broken = is_broken };
    }

creation_tells_store_exists :
    refusal (creating 256 4611686018427387904 full_half true) (create_store (codes "aa") Plain 33)
    ≡ Some store_exists
unfolding with_stores
creation_tells_store_exists = refl

creation_tells_prefix_length :
    refusal (creating 256 4611686018427387904 full_half true) (create_store (codes "t") Plain 33)
    ≡ Some (prefix_length 33)
unfolding with_stores
creation_tells_prefix_length = refl

creation_tells_broken :
    refusal (creating 256 4611686018427387904 full_half true) (create_store (codes "t") Plain 32)
    ≡ Some broken
unfolding with_stores
creation_tells_broken = refl

creation_tells_too_many :
    refusal (creating 256 4611686018427387904 full_half false) (create_store (codes "t") Plain 32)
    ≡ Some (too_many 256)
unfolding with_stores
creation_tells_too_many = refl

creation_tells_spent :
    refusal (creating 255 4611686018427387904 full_half false) (create_store (codes "t") Plain 32)
    ≡ Some spent
unfolding with_stores
creation_tells_spent = refl

-- 5 + 25 + 8 + 255 * 17 + 16
creation_tells_manifest_full :
    refusal (creating 255 4611686018427387903 full_half false) (create_store (codes "t") Plain 32)
    ≡ Some (manifest_full 4389 65526)
unfolding with_stores full_half
creation_tells_manifest_full = refl

creation_is_taken :
    refusal (creating 255 4611686018427387903 new_manifest false) (create_store (codes "t") Plain 32)
    ≡ None
unfolding with_stores
creation_is_taken = refl

-- ---- a drop and a write: a store s of this mode, this number, a segment with this much room of which 61 bytes are
-- taken, values of 2 bytes at most

abbrev one_commit : LogState
one_commit = logged new_log 2 (write_of (record { 0 = 1 }) (Put (codes "k") (codes "v")) ∷ [])

abbrev writing : Mode → ℕ → ℕ → Bool → Script
writing mode number room is_broken = begins_with (record
    (life (without_sets (record small { slot_size = 66; segment_size = 64 + room })
    (record { number = number; stores = new_store 1 (codes "s") mode 0 ∷ [] }) one_commit full_half)) {
      is_broken = is_broken;
    })

drop_tells_no_store : refusal (writing Tx 4611686018427387904 60 true) (drop_store (codes "t")) ≡ Some no_store
drop_tells_no_store = refl

drop_tells_broken : refusal (writing Tx 4611686018427387904 60 true) (drop_store (codes "s")) ≡ Some broken
drop_tells_broken = refl

drop_tells_spent : refusal (writing Tx 4611686018427387904 60 false) (drop_store (codes "s")) ≡ Some spent
drop_tells_spent = refl

-- 5 + 25 + 8
drop_tells_manifest_full :
    refusal (writing Tx 4611686018427387903 60 false) (drop_store (codes "s"))
    ≡ Some (manifest_full 38 65526)
unfolding full_half
drop_tells_manifest_full = refl

put_tells_no_store :
    refusal (writing Tx 4611686018427387904 60 true) (put outside (codes "t") [] (codes "123"))
    ≡ Some no_store
put_tells_no_store = refl

put_tells_store_mode :
    refusal (writing Tx 4611686018427387904 60 true) (put outside (codes "s") [] (codes "123"))
    ≡ Some store_mode
put_tells_store_mode = refl

put_tells_key_length :
    refusal (writing Plain 4611686018427387904 60 true) (put outside (codes "s") [] (codes "123"))
    ≡ Some (key_length 0)
put_tells_key_length = refl

put_tells_value_length :
    refusal (writing Plain 4611686018427387904 60 true) (put outside (codes "s") (codes "a") (codes "123"))
    ≡ Some (value_length 3)
put_tells_value_length = refl

put_tells_broken :
    refusal (writing Plain 4611686018427387904 60 true) (put outside (codes "s") (codes "a") (codes "1"))
    ≡ Some broken
put_tells_broken = refl

put_tells_spent :
    refusal (writing Plain 4611686018427387904 60 false) (put outside (codes "s") (codes "a") (codes "1"))
    ≡ Some spent
put_tells_spent = refl

put_tells_txn_size :
    refusal (writing Plain 4611686018427387903 60 false) (put outside (codes "s") (codes "a") (codes "1"))
    ≡ Some (txn_size 61 60)
unfolding normal_form
put_tells_txn_size = refl

put_tells_log_full :
    refusal (writing Plain 4611686018427387903 121 false) (put outside (codes "s") (codes "a") (codes "1"))
    ≡ Some (log_full 61 60)
unfolding normal_form
put_tells_log_full = refl

put_is_taken :
    refusal (writing Plain 4611686018427387903 122 false) (put outside (codes "s") (codes "a") (codes "1"))
    ≡ None
unfolding normal_form
put_is_taken = refl

del_tells_no_store : refusal (writing Tx 4611686018427387904 55 true) (del outside (codes "t") []) ≡ Some no_store
del_tells_no_store = refl

del_tells_store_mode : refusal (writing Tx 4611686018427387904 55 true) (del outside (codes "s") []) ≡ Some store_mode
del_tells_store_mode = refl

del_tells_key_length :
    refusal (writing Plain 4611686018427387904 55 true) (del outside (codes "s") [])
    ≡ Some (key_length 0)
del_tells_key_length = refl

del_tells_broken :
    refusal (writing Plain 4611686018427387904 55 true) (del outside (codes "s") (codes "a"))
    ≡ Some broken
del_tells_broken = refl

del_tells_spent :
    refusal (writing Plain 4611686018427387904 55 false) (del outside (codes "s") (codes "a"))
    ≡ Some spent
del_tells_spent = refl

del_tells_txn_size :
    refusal (writing Plain 4611686018427387903 55 false) (del outside (codes "s") (codes "a"))
    ≡ Some (txn_size 56 55)
unfolding normal_form
del_tells_txn_size = refl

del_tells_log_full :
    refusal (writing Plain 4611686018427387903 116 false) (del outside (codes "s") (codes "a"))
    ≡ Some (log_full 56 55)
unfolding normal_form
del_tells_log_full = refl

del_is_taken : refusal (writing Plain 4611686018427387903 117 false) (del outside (codes "s") (codes "a")) ≡ None
unfolding normal_form
del_is_taken = refl

get_tells_no_store : refusal (writing Tx 4611686018427387904 55 true) (get outside (codes "t") []) ≡ Some no_store
get_tells_no_store = refl

get_tells_key_length :
    refusal (writing Tx 4611686018427387904 55 true) (get outside (codes "s") [])
    ≡ Some (key_length 0)
get_tells_key_length = refl

-- any store is read
get_is_taken : refusal (writing Tx 4611686018427387904 55 true) (get outside (codes "s") (codes "a")) ≡ None
get_is_taken = refl
