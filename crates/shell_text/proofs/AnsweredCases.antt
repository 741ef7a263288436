-- Replies and refusals of each kind, with their texts and the answers of the script machine that they tell, worked by hand.
use Rattle.std.proofs.Common.{◌≡◌, ℕ, List, [], ◌∷◌, ◌++◌, codes, decimal, refl}
use Rattle.hex.specs.Hex.{encode_lower}
use Rattle.hse_rows.specs.declared.store.Mode.TheVariants.{Plain, Tx}
use Rattle.hse_rows.specs.machine.Turn.{syncing, freezing, installing, creating, dropping, is_home, is_taken, is_run}
use Rattle.hse_rows.specs.machine.Replies as answer
use Rattle.hse_rows.specs.machine.Replies.{Answer, by_commit, by_abort}
use Rattle.shell_text.specs.declared.reply.RegionText.TheVariants as region
use Rattle.shell_text.specs.declared.reply.TurnText.TheVariants as turn
use Rattle.shell_text.specs.declared.reply.PhaseText.TheVariants as phase
use Rattle.shell_text.specs.declared.reply.DoneText.TheVariants as done
use Rattle.shell_text.specs.declared.reply.Refused.{Refused}
use Rattle.shell_text.specs.declared.reply.Refused.TheVariants as refused
use Rattle.shell_text.specs.declared.reply.Reply.{Reply}
use Rattle.shell_text.specs.declared.reply.Reply.TheVariants as reply
use Rattle.shell_text.specs.Answered.{answer_of}
use Rattle.shell_text.specs.Replies.{item_text, ended, info_text, reply_text}

-- the reply has this text of one line, and tells this answer
abbrev Tells : Reply → List ℕ → Answer (List ℕ) → Type 0
Tells said text told = (reply_text said ≡ ended text) × (answer_of said ≡ told)

abbrev Refuses : Refused → List ℕ → Answer (List ℕ) → Type 0
Refuses why text told = Tells (reply.Refused why) text told

done_alone : Tells reply.Ok (codes "ok") answer.accepted
done_alone = (refl, refl)

with_number : Tells (reply.Number 61) (codes "ok " ++ decimal 61) (answer.ok 61)
with_number = (refl, refl)

value_as_word : Tells (reply.Value (codes "v")) (codes "value v") (answer.value (codes "v"))
unfolding item_text
value_as_word = (refl, refl)

empty_value : Tells (reply.Value []) (codes "value x:" ++ encode_lower []) (answer.value [])
unfolding item_text
empty_value = (refl, refl)

absent : Tells reply.Absent (codes "none") answer.none
absent = (refl, refl)

at_key : Tells (reply.At (codes "k")) (codes "at k") (answer.at_key (codes "k"))
unfolding item_text
at_key = (refl, refl)

at_end : Tells reply.Eof (codes "eof") answer.at_end
at_end = (refl, refl)

pair : Tells (reply.Pair (codes "k") (32 ∷ [])) (codes "pair k x:" ++ encode_lower (32 ∷ [])) (answer.pair (codes "k") (32 ∷ []))
unfolding item_text
pair = (refl, refl)

written : Tells reply.Written (codes "written") answer.written
written = (refl, refl)

no_stores : (reply_text (reply.Stores []) ≡ ended (codes "stores " ++ decimal 0) ++ []) × (answer_of (reply.Stores []) ≡ answer.listed [])
no_stores = (refl, refl)

figures : Tells (reply.Info 3 0 61 62 1) (info_text 3 0 61 62 1)
    (answer.figures (record { number = 3; frozen = 0; charge = 61; free = 62; manifest = 1 }))
figures = (refl, refl)

one_store : reply_text (reply.Stores (record { name = codes "s"; mode = Tx; prefix = 2 } ∷ [])) ≡ ended (codes "stores " ++ decimal 1) ++ (ended (codes "s tx " ++ decimal 2) ++ [])
one_store = refl

one_listed : answer_of (reply.Stores (record { name = codes "s"; mode = Tx; prefix = 2 } ∷ []))
    ≡ answer.listed (record { name = codes "s"; mode = Tx; prefix_length = 2 } ∷ [])
one_listed = refl

bad_line : Refuses refused.Line (codes "err line") (answer.refused answer.bad_line)
bad_line = (refl, refl)

no_memory : Refuses refused.Memory (codes "err memory") answer.no_memory
no_memory = (refl, refl)

store_exists : Refuses refused.StoreExists (codes "err store-exists") (answer.refused answer.store_exists)
store_exists = (refl, refl)

no_store : Refuses refused.NoStore (codes "err no-store") (answer.refused answer.no_store)
no_store = (refl, refl)

store_mode : Refuses refused.StoreMode (codes "err store-mode") (answer.refused answer.store_mode)
store_mode = (refl, refl)

key_length : Refuses (refused.KeyLength 1345) (codes "err key-length " ++ decimal 1345) (answer.refused (answer.key_length 1345))
key_length = (refl, refl)

value_length : Refuses (refused.ValueLength 4033) (codes "err value-length " ++ decimal 4033) (answer.refused (answer.value_length 4033))
value_length = (refl, refl)

prefix_length : Refuses (refused.PrefixLength 33) (codes "err prefix-length " ++ decimal 33) (answer.refused (answer.prefix_length 33))
prefix_length = (refl, refl)

broken : Refuses refused.Broken (codes "err broken") (answer.refused answer.broken)
broken = (refl, refl)

too_many : Refuses (refused.TooMany 256) (codes "err too-many " ++ decimal 256) (answer.refused (answer.too_many 256))
too_many = (refl, refl)

spent : Refuses refused.Spent (codes "err spent") (answer.refused answer.spent)
spent = (refl, refl)

busy_sync : Refuses (refused.Busy turn.Sync) (codes "err busy sync") (answer.refused (answer.busy syncing))
busy_sync = (refl, refl)

busy_freeze : Refuses (refused.Busy turn.Freeze) (codes "err busy freeze") (answer.refused (answer.busy freezing))
busy_freeze = (refl, refl)

busy_install : Refuses (refused.Busy turn.Install) (codes "err busy install") (answer.refused (answer.busy installing))
busy_install = (refl, refl)

busy_create : Refuses (refused.Busy turn.Create) (codes "err busy create") (answer.refused (answer.busy creating))
busy_create = (refl, refl)

busy_drop : Refuses (refused.Busy turn.Drop) (codes "err busy drop") (answer.refused (answer.busy dropping))
busy_drop = (refl, refl)

turn_in : Refuses (refused.Turn phase.In) (codes "err turn in") (answer.refused (answer.turn_is is_home))
turn_in = (refl, refl)

turn_taken : Refuses (refused.Turn phase.Taken) (codes "err turn taken") (answer.refused (answer.turn_is is_taken))
turn_taken = (refl, refl)

turn_run : Refuses (refused.Turn phase.Run) (codes "err turn run") (answer.refused (answer.turn_is is_run))
turn_run = (refl, refl)

manifest_full : Refuses (refused.ManifestFull 70 60) (codes "err manifest-full " ++ (decimal 70 ++ 32 ∷ decimal 60)) (answer.refused (answer.manifest_full 70 60))
manifest_full = (refl, refl)

store_held : Refuses (refused.StoreHeld (codes "t")) (codes "err store-held t") (answer.refused (answer.store_held (codes "t")))
store_held = (refl, refl)

name_used : Refuses refused.NameUsed (codes "err name-used") (answer.refused answer.name_used)
name_used = (refl, refl)

no_name : Refuses refused.NoName (codes "err no-name") (answer.refused answer.no_name)
no_name = (refl, refl)

committed : Refuses (refused.Done done.Committed) (codes "err done committed") (answer.refused (answer.ended_by by_commit))
committed = (refl, refl)

aborted : Refuses (refused.Done done.Aborted) (codes "err done aborted") (answer.refused (answer.ended_by by_abort))
aborted = (refl, refl)

txn_size : Refuses (refused.TxnSize 70 60) (codes "err txn-size " ++ (decimal 70 ++ 32 ∷ decimal 60)) (answer.refused (answer.txn_size 70 60))
txn_size = (refl, refl)

log_full : Refuses (refused.LogFull 70 60) (codes "err log-full " ++ (decimal 70 ++ 32 ∷ decimal 60)) (answer.refused (answer.log_full 70 60))
log_full = (refl, refl)

held : Refuses (refused.Held (codes "t")) (codes "canceled held t") (answer.refused (answer.canceled_held (codes "t")))
held = (refl, refl)

since : Refuses (refused.Since 7) (codes "canceled since " ++ decimal 7) (answer.refused (answer.canceled_since 7))
since = (refl, refl)

forward_only : Refuses refused.ForwardOnly (codes "err forward-only") (answer.refused answer.forward_only)
forward_only = (refl, refl)

not_formed_super : Refuses (refused.NotFormed region.Super 0) (codes "err not-formed super " ++ decimal 0) (answer.refused (answer.not_formed answer.superblock 0))
not_formed_super = (refl, refl)

not_formed_manifest : Refuses (refused.NotFormed (region.Manifest 1) 10) (codes "err not-formed manifest-" ++ (decimal 1 ++ 32 ∷ decimal 10)) (answer.refused (answer.not_formed (answer.manifest_half 1) 10))
not_formed_manifest = (refl, refl)

not_formed_log : Refuses (refused.NotFormed (region.Log 3) 9) (codes "err not-formed log-" ++ (decimal 3 ++ 32 ∷ decimal 9)) (answer.refused (answer.not_formed (answer.log_segment 3) 9))
not_formed_log = (refl, refl)

not_formed_slot : Refuses (refused.NotFormed (region.Slot 5) 4) (codes "err not-formed slot-" ++ (decimal 5 ++ 32 ∷ decimal 4)) (answer.refused (answer.not_formed (answer.slot 5) 4))
not_formed_slot = (refl, refl)

version : Refuses (refused.Version 3) (codes "err version " ++ decimal 3) (answer.refused (answer.other_version 3))
version = (refl, refl)

device : Refuses refused.Device (codes "err device") answer.device_fault
device = (refl, refl)
