-- Each line but a silent one is a verb and what stands behind it.
use Rattle.std.proofs.Common.{◌≡◌, ℕ, ◌≤◌, Bool, if◌then◌else◌, List, [], ◌∷◌, codes, Option, Some, None, refl, ap, sym, ◌∙◌, lit≤, slice_index}
use Rattle.std.specs.Str.{bytes_eq}
use Rattle.hse_rows.specs.declared.store.Mode.{Mode}
use Rattle.shell_text.specs.declared.line.Actor.{Actor}
use Rattle.shell_text.specs.declared.line.TakeText.{TakeText}
use Rattle.shell_text.specs.declared.line.Line.{Line}
use Rattle.shell_text.specs.declared.line.Line.TheVariants.{Silent, CreateStore, DropStore, Stores, Begin, Put, Del, Pdel, Get, Commit, Abort, Cursor, Seek, SeekRange, Read, Update, CloseCursor, Take, Write, End, Sync, Info, Reopen}
use Rattle.shell_text.specs.declared.verb.Verb.{Verb}
use Rattle.shell_text.specs.declared.verb.Verb.TheVariants as verb
use Rattle.shell_text.specs.Grammar.{spelling, AreWords, Says}
use Rattle.shell_text.specs.Verbs.{verb_word}
use Rattle.shell_text.specs.Words.{Word, no_word, this}

-- what stands behind a verb
abbrev pub Fields : Verb → Type 0
Fields verb.CreateStore = List ℕ × Mode × ℕ
Fields verb.DropStore = List ℕ
Fields verb.Stores = Unit {0}
Fields verb.Begin = List ℕ
Fields verb.Put = Actor × List ℕ × List ℕ × List ℕ
Fields verb.Del = Actor × List ℕ × List ℕ
Fields verb.Pdel = Actor × List ℕ × List ℕ
Fields verb.Get = Actor × List ℕ × List ℕ
Fields verb.Commit = List ℕ
Fields verb.Abort = List ℕ
Fields verb.Cursor = List ℕ × Actor × List ℕ × Bool × List ℕ
Fields verb.Seek = List ℕ × List ℕ
Fields verb.SeekRange = List ℕ × List ℕ × List ℕ
Fields verb.Read = List ℕ
Fields verb.Update = List ℕ
Fields verb.CloseCursor = List ℕ
Fields verb.Take = TakeText
Fields verb.Write = Unit {0}
Fields verb.End = Unit {0}
Fields verb.Sync = Unit {0}
Fields verb.Info = Unit {0}
Fields verb.Reopen = Unit {0}

abbrev pub made : (verb : Verb) → Fields verb → Line
made verb.CreateStore of = CreateStore of.0 of.1 of.2
made verb.DropStore of = DropStore of
made verb.Stores of = Stores
made verb.Begin of = Begin of
made verb.Put of = Put of.0 of.1 of.2 of.3
made verb.Del of = Del of.0 of.1 of.2
made verb.Pdel of = Pdel of.0 of.1 of.2
made verb.Get of = Get of.0 of.1 of.2
made verb.Commit of = Commit of
made verb.Abort of = Abort of
made verb.Cursor of = Cursor of.0 of.1 of.2 of.3 of.4
made verb.Seek of = Seek of.0 of.1
made verb.SeekRange of = SeekRange of.0 of.1 of.2
made verb.Read of = Read of
made verb.Update of = Update of
made verb.CloseCursor of = CloseCursor of
made verb.Take of = Take of
made verb.Write of = Write
made verb.End of = End
made verb.Sync of = Sync
made verb.Info of = Info
made verb.Reopen of = Reopen

-- what stands behind the first word
abbrev pub behind : List Word → List Word
behind [] = []
behind (first ∷ rest) = rest

pub first_is_verb : (said : Verb) (of : Fields said) → spelling (made said of) ≡ this (verb_word said) ∷ behind (spelling (made said of))
first_is_verb verb.CreateStore of = refl
first_is_verb verb.DropStore of = refl
first_is_verb verb.Stores of = refl
first_is_verb verb.Begin of = refl
first_is_verb verb.Put of = refl
first_is_verb verb.Del of = refl
first_is_verb verb.Pdel of = refl
first_is_verb verb.Get of = refl
first_is_verb verb.Commit of = refl
first_is_verb verb.Abort of = refl
first_is_verb verb.Cursor of = refl
first_is_verb verb.Seek of = refl
first_is_verb verb.SeekRange of = refl
first_is_verb verb.Read of = refl
first_is_verb verb.Update of = refl
first_is_verb verb.CloseCursor of = refl
first_is_verb verb.Take of = refl
first_is_verb verb.Write of = refl
first_is_verb verb.End of = refl
first_is_verb verb.Sync of = refl
first_is_verb verb.Info of = refl
first_is_verb verb.Reopen of = refl

pub record IsMade (line : Line) : Type 0 where
  pub verb : Verb
  pub fields : Fields verb
  pub same : line ≡ made verb fields

pub no_words_of_silent : (words : List (List ℕ)) → Says Silent words → ⊥
no_words_of_silent [] says = absurd says
no_words_of_silent (word ∷ words) says = absurd says.0

pub is_made : (line : Line) (words : List (List ℕ)) → Says line words → IsMade line
is_made Silent words says = absurd (no_words_of_silent words says)
is_made (CreateStore store mode prefix) words says = record { verb = verb.CreateStore; fields = (store, mode, prefix); same = refl }
is_made (DropStore store) words says = record { verb = verb.DropStore; fields = store; same = refl }
is_made Stores words says = record { verb = verb.Stores; fields = tt; same = refl }
is_made (Begin transaction) words says = record { verb = verb.Begin; fields = transaction; same = refl }
is_made (Put actor store key value) words says = record { verb = verb.Put; fields = (actor, store, key, value); same = refl }
is_made (Del actor store key) words says = record { verb = verb.Del; fields = (actor, store, key); same = refl }
is_made (Pdel actor store prefix) words says = record { verb = verb.Pdel; fields = (actor, store, prefix); same = refl }
is_made (Get actor store key) words says = record { verb = verb.Get; fields = (actor, store, key); same = refl }
is_made (Commit transaction) words says = record { verb = verb.Commit; fields = transaction; same = refl }
is_made (Abort transaction) words says = record { verb = verb.Abort; fields = transaction; same = refl }
is_made (Cursor cursor actor store reverse filter) words says = record { verb = verb.Cursor; fields = (cursor, actor, store, reverse, filter); same = refl }
is_made (Seek cursor key) words says = record { verb = verb.Seek; fields = (cursor, key); same = refl }
is_made (SeekRange cursor first last) words says = record { verb = verb.SeekRange; fields = (cursor, first, last); same = refl }
is_made (Read cursor) words says = record { verb = verb.Read; fields = cursor; same = refl }
is_made (Update cursor) words says = record { verb = verb.Update; fields = cursor; same = refl }
is_made (CloseCursor cursor) words says = record { verb = verb.CloseCursor; fields = cursor; same = refl }
is_made (Take wish) words says = record { verb = verb.Take; fields = wish; same = refl }
is_made Write words says = record { verb = verb.Write; fields = tt; same = refl }
is_made End words says = record { verb = verb.End; fields = tt; same = refl }
is_made Sync words says = record { verb = verb.Sync; fields = tt; same = refl }
is_made Info words says = record { verb = verb.Info; fields = tt; same = refl }
is_made Reopen words says = record { verb = verb.Reopen; fields = tt; same = refl }

-- the verb that is spelled so
abbrev verb_at : List ℕ → Option Verb
verb_at word =
    if bytes_eq word (codes "create-store") then Some verb.CreateStore
    else if bytes_eq word (codes "drop-store") then Some verb.DropStore
    else if bytes_eq word (codes "stores") then Some verb.Stores
    else if bytes_eq word (codes "begin") then Some verb.Begin
    else if bytes_eq word (codes "put") then Some verb.Put
    else if bytes_eq word (codes "del") then Some verb.Del
    else if bytes_eq word (codes "pdel") then Some verb.Pdel
    else if bytes_eq word (codes "get") then Some verb.Get
    else if bytes_eq word (codes "commit") then Some verb.Commit
    else if bytes_eq word (codes "abort") then Some verb.Abort
    else if bytes_eq word (codes "cursor") then Some verb.Cursor
    else if bytes_eq word (codes "seek") then Some verb.Seek
    else if bytes_eq word (codes "seek-range") then Some verb.SeekRange
    else if bytes_eq word (codes "read") then Some verb.Read
    else if bytes_eq word (codes "update") then Some verb.Update
    else if bytes_eq word (codes "close-cursor") then Some verb.CloseCursor
    else if bytes_eq word (codes "take") then Some verb.Take
    else if bytes_eq word (codes "write") then Some verb.Write
    else if bytes_eq word (codes "end") then Some verb.End
    else if bytes_eq word (codes "sync") then Some verb.Sync
    else if bytes_eq word (codes "info") then Some verb.Info
    else if bytes_eq word (codes "reopen") then Some verb.Reopen
    else None

verb_at-verb_word : (said : Verb) → verb_at (verb_word said) ≡ Some said
verb_at-verb_word verb.CreateStore = refl
verb_at-verb_word verb.DropStore = refl
verb_at-verb_word verb.Stores = refl
verb_at-verb_word verb.Begin = refl
verb_at-verb_word verb.Put = refl
verb_at-verb_word verb.Del = refl
verb_at-verb_word verb.Pdel = refl
verb_at-verb_word verb.Get = refl
verb_at-verb_word verb.Commit = refl
verb_at-verb_word verb.Abort = refl
verb_at-verb_word verb.Cursor = refl
verb_at-verb_word verb.Seek = refl
verb_at-verb_word verb.SeekRange = refl
verb_at-verb_word verb.Read = refl
verb_at-verb_word verb.Update = refl
verb_at-verb_word verb.CloseCursor = refl
verb_at-verb_word verb.Take = refl
verb_at-verb_word verb.Write = refl
verb_at-verb_word verb.End = refl
verb_at-verb_word verb.Sync = refl
verb_at-verb_word verb.Info = refl
verb_at-verb_word verb.Reopen = refl

pub same_word : (one other : Verb) → verb_word one ≡ verb_word other → one ≡ other
same_word one other same =
    let seen : Some one ≡ Some other = sym (verb_at-verb_word one) ∙ ap verb_at same ∙ verb_at-verb_word other in cc

-- what a verb begins with
pub letter : (said : Verb) → 97 ≤ slice_index (verb_word said) 0
letter verb.CreateStore = lit≤ tt
letter verb.DropStore = lit≤ tt
letter verb.Stores = lit≤ tt
letter verb.Begin = lit≤ tt
letter verb.Put = lit≤ tt
letter verb.Del = lit≤ tt
letter verb.Pdel = lit≤ tt
letter verb.Get = lit≤ tt
letter verb.Commit = lit≤ tt
letter verb.Abort = lit≤ tt
letter verb.Cursor = lit≤ tt
letter verb.Seek = lit≤ tt
letter verb.SeekRange = lit≤ tt
letter verb.Read = lit≤ tt
letter verb.Update = lit≤ tt
letter verb.CloseCursor = lit≤ tt
letter verb.Take = lit≤ tt
letter verb.Write = lit≤ tt
letter verb.End = lit≤ tt
letter verb.Sync = lit≤ tt
letter verb.Info = lit≤ tt
letter verb.Reopen = lit≤ tt
