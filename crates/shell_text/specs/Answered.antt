-- Which answer of the script machine a reply tells. The answers about jobs and trees have no text yet.
use Rattle.std.specs.Prelude.{ℕ, List, map}
use Rattle.hse_rows.specs.machine.Turn.{TurnKind, syncing, freezing, installing, creating, dropping, TurnPhase, is_home, is_taken, is_run}
use Rattle.hse_rows.specs.machine.Replies.{Part, Ending, by_commit, by_abort, Listed, Figures, Answer}
use Rattle.hse_rows.specs.machine.Replies as answer
use Rattle.shell_text.specs.declared.reply.RegionText.{RegionText}
use Rattle.shell_text.specs.declared.reply.RegionText.TheVariants as region
use Rattle.shell_text.specs.declared.reply.TurnText.{TurnText}
use Rattle.shell_text.specs.declared.reply.TurnText.TheVariants as turn
use Rattle.shell_text.specs.declared.reply.PhaseText.{PhaseText}
use Rattle.shell_text.specs.declared.reply.PhaseText.TheVariants as phase
use Rattle.shell_text.specs.declared.reply.DoneText.{DoneText}
use Rattle.shell_text.specs.declared.reply.DoneText.TheVariants as done
use Rattle.shell_text.specs.declared.reply.Refused.{Refused}
use Rattle.shell_text.specs.declared.reply.Refused.TheVariants as text
use Rattle.shell_text.specs.declared.reply.Reply.{Reply}
use Rattle.shell_text.specs.declared.reply.Reply.TheVariants as reply
use Rattle.shell_text.specs.declared.reply.StoreText.{StoreText}

abbrev pub part_of : RegionText → Part
part_of region.Super = answer.superblock
part_of (region.Manifest half) = answer.manifest_half half
part_of (region.Log segment) = answer.log_segment segment
part_of (region.Slot number) = answer.slot number

abbrev pub kind_of : TurnText → TurnKind
kind_of turn.Sync = syncing
kind_of turn.Freeze = freezing
kind_of turn.Install = installing
kind_of turn.Create = creating
kind_of turn.Drop = dropping

abbrev pub phase_of : PhaseText → TurnPhase
phase_of phase.In = is_home
phase_of phase.Taken = is_taken
phase_of phase.Run = is_run

abbrev pub ending_of : DoneText → Ending
ending_of done.Committed = by_commit
ending_of done.Aborted = by_abort

abbrev pub listed_of : StoreText → Listed
listed_of store = record { name = store.name; mode = store.mode; prefix_length = store.prefix }

-- Want of memory and a failed device are answers beside the refusals.
abbrev pub refused_of : Refused → Answer (List ℕ)
refused_of text.Line = answer.refused answer.bad_line
refused_of text.Memory = answer.no_memory
refused_of text.StoreExists = answer.refused answer.store_exists
refused_of text.NoStore = answer.refused answer.no_store
refused_of text.StoreMode = answer.refused answer.store_mode
refused_of (text.KeyLength bytes) = answer.refused (answer.key_length bytes)
refused_of (text.ValueLength bytes) = answer.refused (answer.value_length bytes)
refused_of (text.PrefixLength bytes) = answer.refused (answer.prefix_length bytes)
refused_of text.Broken = answer.refused answer.broken
refused_of (text.TooMany limit) = answer.refused (answer.too_many limit)
refused_of text.Spent = answer.refused answer.spent
refused_of (text.Busy kind) = answer.refused (answer.busy (kind_of kind))
refused_of (text.Turn phase) = answer.refused (answer.turn_is (phase_of phase))
refused_of (text.ManifestFull need room) = answer.refused (answer.manifest_full need room)
refused_of (text.StoreHeld transaction) = answer.refused (answer.store_held transaction)
refused_of text.NameUsed = answer.refused answer.name_used
refused_of text.NoName = answer.refused answer.no_name
refused_of (text.Done how) = answer.refused (answer.ended_by (ending_of how))
refused_of (text.TxnSize need room) = answer.refused (answer.txn_size need room)
refused_of (text.LogFull need room) = answer.refused (answer.log_full need room)
refused_of (text.Held transaction) = answer.refused (answer.canceled_held transaction)
refused_of (text.Since number) = answer.refused (answer.canceled_since number)
refused_of text.ForwardOnly = answer.refused answer.forward_only
refused_of (text.NotFormed region place) = answer.refused (answer.not_formed (part_of region) place)
refused_of (text.Version version) = answer.refused (answer.other_version version)
refused_of text.Device = answer.device_fault

abbrev pub answer_of : Reply → Answer (List ℕ)
answer_of reply.Ok = answer.accepted
answer_of (reply.Number number) = answer.ok number
answer_of (reply.Value bytes) = answer.value bytes
answer_of reply.Absent = answer.none
answer_of (reply.At key) = answer.at_key key
answer_of reply.Eof = answer.at_end
answer_of (reply.Pair key value) = answer.pair key value
answer_of (reply.Stores stores) = answer.listed (map listed_of stores)
answer_of (reply.Info number frozen charge free manifest) =
    answer.figures (record { number = number; frozen = frozen; charge = charge; free = free; manifest = manifest })
answer_of reply.Written = answer.written
answer_of (reply.Refused why) = refused_of why
