-- The lines of a script.
use Rattle.std.specs.Prelude.{◌≡◌, ℕ, ◌⊎◌, List, [], ◌∷◌, codes}
use Rattle.shell_text.specs.declared.line.TakeText.{TakeText}
use Rattle.shell_text.specs.declared.line.TakeText.TheVariants as turn
use Rattle.shell_text.specs.declared.line.Line.{Line}
use Rattle.shell_text.specs.declared.line.Line.TheVariants.{Silent, CreateStore, DropStore, Stores, Begin, Put, Del, Pdel, Get, Commit, Abort, Cursor, Seek, SeekRange, Read, Update, CloseCursor, Take, Write, End, Sync, Info, Reopen}
use Rattle.shell_text.specs.Words.{spaced, Word, no_word, this, actor_of, name, mode_of, number, direction, item, IsWord}

-- what is taken
abbrev pub taking : TakeText → List Word
taking turn.Sync = this (codes "sync") ∷ []
taking (turn.Create store mode prefix) = this (codes "create") ∷ name store ∷ mode_of mode ∷ number prefix ∷ []
taking (turn.Drop store) = this (codes "drop") ∷ name store ∷ []

-- what the words of a line stand for, one by one
abbrev pub spelling : Line → List Word
spelling Silent = no_word ∷ []
spelling (CreateStore store mode prefix) = this (codes "create-store") ∷ name store ∷ mode_of mode ∷ number prefix ∷ []
spelling (DropStore store) = this (codes "drop-store") ∷ name store ∷ []
spelling Stores = this (codes "stores") ∷ []
spelling (Begin transaction) = this (codes "begin") ∷ name transaction ∷ []
spelling (Put actor store key value) = this (codes "put") ∷ actor_of actor ∷ name store ∷ item key ∷ item value ∷ []
spelling (Del actor store key) = this (codes "del") ∷ actor_of actor ∷ name store ∷ item key ∷ []
spelling (Pdel actor store prefix) = this (codes "pdel") ∷ actor_of actor ∷ name store ∷ item prefix ∷ []
spelling (Get actor store key) = this (codes "get") ∷ actor_of actor ∷ name store ∷ item key ∷ []
spelling (Commit transaction) = this (codes "commit") ∷ name transaction ∷ []
spelling (Abort transaction) = this (codes "abort") ∷ name transaction ∷ []
spelling (Cursor cursor actor store reverse filter) = this (codes "cursor") ∷ name cursor ∷ actor_of actor ∷ name store ∷ direction reverse ∷ item filter ∷ []
spelling (Seek cursor key) = this (codes "seek") ∷ name cursor ∷ item key ∷ []
spelling (SeekRange cursor first last) = this (codes "seek-range") ∷ name cursor ∷ item first ∷ item last ∷ []
spelling (Read cursor) = this (codes "read") ∷ name cursor ∷ []
spelling (Update cursor) = this (codes "update") ∷ name cursor ∷ []
spelling (CloseCursor cursor) = this (codes "close-cursor") ∷ name cursor ∷ []
spelling (Take wish) = this (codes "take") ∷ taking wish
spelling Write = this (codes "write") ∷ []
spelling End = this (codes "end") ∷ []
spelling Sync = this (codes "sync") ∷ []
spelling Info = this (codes "info") ∷ []
spelling Reopen = this (codes "reopen") ∷ []

-- the words, one by one, are words for these
abbrev pub AreWords : List Word → List (List ℕ) → Type 0
AreWords [] [] = Unit {0}
AreWords [] (word ∷ words) = ⊥
AreWords (meant ∷ more) [] = ⊥
AreWords (meant ∷ more) (word ∷ words) = IsWord meant word × AreWords more words

-- the words say what the line asks for
abbrev pub Says : Line → List (List ℕ) → Type 0
Says line words = AreWords (spelling line) words

-- the line is empty or begins with #
abbrev pub IsSilent : List ℕ → Type 0
IsSilent line = (line ≡ []) ⊎ ((rest : List ℕ) × (line ≡ 35 ∷ rest))

-- the line is words with single spaces between them, which say what it asks for
pub record IsSpoken (line : List ℕ) (asked : Line) : Type 0 where
  pub words : List (List ℕ)
  pub spelled : line ≡ spaced words
  pub said : Says asked words

-- the line asks for this
abbrev pub Means : List ℕ → Line → Type 0
Means line asked = (IsSilent line × (asked ≡ Silent)) ⊎ IsSpoken line asked

-- each line has at most one meaning
abbrev pub HaveOneMeaning : Type 0
HaveOneMeaning =
    (line : List ℕ) (one other : Line) → Means line one → Means line other → one ≡ other
