-- The first words of lines.
use Rattle.std.specs.Prelude.{ℕ, Bool, true, false, List, codes}
use Rattle.shell_text.specs.declared.verb.Verb.{Verb}
use Rattle.shell_text.specs.declared.verb.Verb.TheVariants as verb

-- the first word that says this
abbrev pub verb_word : Verb → List ℕ
verb_word verb.CreateStore = codes "create-store"
verb_word verb.DropStore = codes "drop-store"
verb_word verb.Stores = codes "stores"
verb_word verb.Begin = codes "begin"
verb_word verb.Put = codes "put"
verb_word verb.Del = codes "del"
verb_word verb.Pdel = codes "pdel"
verb_word verb.Get = codes "get"
verb_word verb.Commit = codes "commit"
verb_word verb.Abort = codes "abort"
verb_word verb.Cursor = codes "cursor"
verb_word verb.Seek = codes "seek"
verb_word verb.SeekRange = codes "seek-range"
verb_word verb.Read = codes "read"
verb_word verb.Update = codes "update"
verb_word verb.CloseCursor = codes "close-cursor"
verb_word verb.Take = codes "take"
verb_word verb.Write = codes "write"
verb_word verb.End = codes "end"
verb_word verb.Sync = codes "sync"
verb_word verb.Info = codes "info"
verb_word verb.Reopen = codes "reopen"

-- one name stands behind it, and nothing else
abbrev pub takes_a_name : Verb → Bool
takes_a_name verb.DropStore = true
takes_a_name verb.Begin = true
takes_a_name verb.Commit = true
takes_a_name verb.Abort = true
takes_a_name verb.Read = true
takes_a_name verb.Update = true
takes_a_name verb.CloseCursor = true
takes_a_name other = false
