-- The texts of replies.
use Rattle.std.specs.Prelude.{ℕ, List, [], ◌∷◌, ◌++◌, codes, decimal, length, flat_map, if◌then◌else◌}
use Rattle.hex.specs.Hex.{encode_lower, IsBytes}
use Rattle.shell_text.specs.declared.reply.RegionText.{RegionText}
use Rattle.shell_text.specs.declared.reply.RegionText.TheVariants.{Super, Manifest, Log, Slot}
use Rattle.shell_text.specs.declared.reply.TurnText.{TurnText}
use Rattle.shell_text.specs.declared.reply.TurnText.TheVariants as turn
use Rattle.shell_text.specs.declared.reply.PhaseText.{PhaseText}
use Rattle.shell_text.specs.declared.reply.PhaseText.TheVariants as phase
use Rattle.shell_text.specs.declared.reply.DoneText.{DoneText}
use Rattle.shell_text.specs.declared.reply.DoneText.TheVariants as done
use Rattle.shell_text.specs.declared.reply.Refused.{Refused}
use Rattle.shell_text.specs.declared.reply.Refused.TheVariants as refused
use Rattle.shell_text.specs.declared.reply.Reply.{Reply}
use Rattle.shell_text.specs.declared.reply.Reply.TheVariants as reply
use Rattle.shell_text.specs.declared.reply.StoreText.{StoreText}
use Rattle.shell_text.specs.Words.{is_plain, IsItem, mode_word}

-- bytes stand for themselves where they can, and else are x: and lower-case digits
unfoldable pub item_text : List ℕ → List ℕ
item_text bytes = if is_plain bytes then bytes else codes "x:" ++ encode_lower bytes

-- a line feed behind the text
abbrev pub ended : List ℕ → List ℕ
ended text = text ++ 10 ∷ []

-- a number, after words
abbrev pub counted : List ℕ → ℕ → List ℕ
counted words number = words ++ decimal number

-- two numbers, after words
abbrev pub paired : List ℕ → ℕ → ℕ → List ℕ
paired words one other = words ++ (decimal one ++ 32 ∷ decimal other)

-- what is out of form: the region, and the byte of it
abbrev pub not_formed_text : RegionText → ℕ → List ℕ
not_formed_text Super place = counted (codes "err not-formed super ") place
not_formed_text (Manifest half) place = paired (codes "err not-formed manifest-") half place
not_formed_text (Log segment) place = paired (codes "err not-formed log-") segment place
not_formed_text (Slot slot) place = paired (codes "err not-formed slot-") slot place

-- the word for what a turn is for
abbrev pub turn_word : TurnText → List ℕ
turn_word turn.Sync = codes "sync"
turn_word turn.Freeze = codes "freeze"
turn_word turn.Install = codes "install"
turn_word turn.Create = codes "create"
turn_word turn.Drop = codes "drop"

-- the word for how far a turn is
abbrev pub phase_word : PhaseText → List ℕ
phase_word phase.In = codes "in"
phase_word phase.Taken = codes "taken"
phase_word phase.Run = codes "run"

-- the word for how a transaction ended
abbrev pub done_word : DoneText → List ℕ
done_word done.Committed = codes "committed"
done_word done.Aborted = codes "aborted"

-- why a line was refused
abbrev pub refusal_text : Refused → List ℕ
refusal_text refused.Line = codes "err line"
refusal_text refused.Memory = codes "err memory"
refusal_text refused.StoreExists = codes "err store-exists"
refusal_text refused.NoStore = codes "err no-store"
refusal_text refused.StoreMode = codes "err store-mode"
refusal_text (refused.KeyLength bytes) = counted (codes "err key-length ") bytes
refusal_text (refused.ValueLength bytes) = counted (codes "err value-length ") bytes
refusal_text (refused.PrefixLength bytes) = counted (codes "err prefix-length ") bytes
refusal_text refused.Broken = codes "err broken"
refusal_text (refused.TooMany limit) = counted (codes "err too-many ") limit
refusal_text refused.Spent = codes "err spent"
refusal_text (refused.Busy kind) = codes "err busy " ++ turn_word kind
refusal_text (refused.Turn phase) = codes "err turn " ++ phase_word phase
refusal_text (refused.ManifestFull need room) = paired (codes "err manifest-full ") need room
refusal_text (refused.StoreHeld name) = codes "err store-held " ++ name
refusal_text refused.NameUsed = codes "err name-used"
refusal_text refused.NoName = codes "err no-name"
refusal_text (refused.Done how) = codes "err done " ++ done_word how
refusal_text (refused.TxnSize need room) = paired (codes "err txn-size ") need room
refusal_text (refused.LogFull need room) = paired (codes "err log-full ") need room
refusal_text (refused.Held name) = codes "canceled held " ++ name
refusal_text (refused.Since number) = counted (codes "canceled since ") number
refusal_text refused.ForwardOnly = codes "err forward-only"
refusal_text (refused.NotFormed region place) = not_formed_text region place
refusal_text (refused.Version version) = counted (codes "err version ") version
refusal_text refused.Device = codes "err device"

-- a store: its name, its mode and the length of its prefixes
abbrev pub store_line : StoreText → List ℕ
store_line store =
    ended (store.name ++ (32 ∷ (mode_word store.mode ++ (32 ∷ decimal store.prefix))))

-- how many stores there are, and a line for each
abbrev pub stores_text : List StoreText → List ℕ
stores_text stores =
    ended (counted (codes "stores ") (length stores)) ++ flat_map store_line stores

-- the engine's figures
abbrev pub info_text : ℕ → ℕ → ℕ → ℕ → ℕ → List ℕ
info_text number frozen charge free manifest =
    counted (codes "info number ") number
    ++ (counted (codes " frozen ") frozen
    ++ (counted (codes " charge ") charge
    ++ (counted (codes " free ") free
    ++ counted (codes " manifest ") manifest)))

-- an item, after words
abbrev pub named_text : List ℕ → List ℕ → List ℕ
named_text words bytes = words ++ item_text bytes

-- a key and its value
abbrev pub pair_text : List ℕ → List ℕ → List ℕ
pair_text key value = named_text (codes "pair ") key ++ named_text (codes " ") value

-- the reply's text, in which each line ends with one line feed
abbrev pub reply_text : Reply → List ℕ
reply_text reply.Ok = ended (codes "ok")
reply_text (reply.Number number) = ended (counted (codes "ok ") number)
reply_text (reply.Value bytes) = ended (named_text (codes "value ") bytes)
reply_text reply.Absent = ended (codes "none")
reply_text (reply.At key) = ended (named_text (codes "at ") key)
reply_text reply.Eof = ended (codes "eof")
reply_text (reply.Pair key value) = ended (pair_text key value)
reply_text (reply.Stores stores) = stores_text stores
reply_text (reply.Info number frozen charge free manifest) =
    ended (info_text number frozen charge free manifest)
reply_text reply.Written = ended (codes "written")
reply_text (reply.Refused refused) = ended (refusal_text refused)

-- what is printed for bytes is an item that stands for these bytes
abbrev pub ItemsReadBack : Type 0
ItemsReadBack = (bytes : List ℕ) → IsBytes bytes → IsItem (item_text bytes) bytes
