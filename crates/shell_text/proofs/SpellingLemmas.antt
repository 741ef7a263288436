-- What is spelled has few words, each of them whole, and one kind of line a verb.
use Rattle.std.proofs.Common.{◌≡◌, ℕ, ◌<◌, Bool, true, if◌then◌else◌, List, [], ◌∷◌, codes, length, map, refl, ap, sym, ◌∙◌, subst, lit<}
use Rattle.std.specs.Str.{bytes_eq}
use Rattle.shell_text.specs.declared.line.TakeText.{TakeText}
use Rattle.shell_text.specs.declared.line.TakeText.TheVariants as turn
use Rattle.shell_text.specs.declared.line.Line.{Line}
use Rattle.shell_text.specs.declared.line.Line.TheVariants.{Silent, CreateStore, DropStore, Stores, Begin, Put, Del, Pdel, Get, Commit, Abort, Cursor, Seek, SeekRange, Read, Update, CloseCursor, Take, Write, End, Sync, Info, Reopen}
use Rattle.shell_text.specs.declared.verb.Verb.{Verb}
use Rattle.shell_text.specs.declared.verb.Verb.TheVariants as verb
use Rattle.shell_text.specs.Grammar.{taking, spelling, AreWords, Says}
use Rattle.hse_rows.specs.declared.store.Mode.{Mode}
use Rattle.shell_text.specs.declared.line.Actor.{Actor}
use Rattle.shell_text.specs.Words.{Word, this, name, mode_of, number}
use Rattle.shell_text.proofs.VerbLemmas.{Fields, made}
use Rattle.shell_text.proofs.WordLemmas.{Kind, kind, are_whole, begun_with}

pub few_words : (said : Verb) (of : Fields said) → length (spelling (made said of)) < 7
few_words verb.CreateStore of = lit< tt
few_words verb.DropStore of = lit< tt
few_words verb.Stores of = lit< tt
few_words verb.Begin of = lit< tt
few_words verb.Put of = lit< tt
few_words verb.Del of = lit< tt
few_words verb.Pdel of = lit< tt
few_words verb.Get of = lit< tt
few_words verb.Commit of = lit< tt
few_words verb.Abort of = lit< tt
few_words verb.Cursor of = lit< tt
few_words verb.Seek of = lit< tt
few_words verb.SeekRange of = lit< tt
few_words verb.Read of = lit< tt
few_words verb.Update of = lit< tt
few_words verb.CloseCursor of = lit< tt
few_words verb.Take turn.Sync = lit< tt
few_words verb.Take (turn.Create store mode prefix) = lit< tt
few_words verb.Take (turn.Drop store) = lit< tt
few_words verb.Write of = lit< tt
few_words verb.End of = lit< tt
few_words verb.Sync of = lit< tt
few_words verb.Info of = lit< tt
few_words verb.Reopen of = lit< tt

pub spelled_whole : (said : Verb) (of : Fields said) → are_whole (spelling (made said of)) ≡ true
spelled_whole verb.CreateStore of = refl
spelled_whole verb.DropStore of = refl
spelled_whole verb.Stores of = refl
spelled_whole verb.Begin of = refl
spelled_whole verb.Put of = refl
spelled_whole verb.Del of = refl
spelled_whole verb.Pdel of = refl
spelled_whole verb.Get of = refl
spelled_whole verb.Commit of = refl
spelled_whole verb.Abort of = refl
spelled_whole verb.Cursor of = refl
spelled_whole verb.Seek of = refl
spelled_whole verb.SeekRange of = refl
spelled_whole verb.Read of = refl
spelled_whole verb.Update of = refl
spelled_whole verb.CloseCursor of = refl
spelled_whole verb.Take turn.Sync = refl
spelled_whole verb.Take (turn.Create store mode prefix) = refl
spelled_whole verb.Take (turn.Drop store) = refl
spelled_whole verb.Write of = refl
spelled_whole verb.End of = refl
spelled_whole verb.Sync of = refl
spelled_whole verb.Info of = refl
spelled_whole verb.Reopen of = refl

-- what is taken
pub data Taken : Type 0 where
  a_sync : Taken
  a_create : Taken
  a_drop : Taken

-- that is spelled so
abbrev pub taken_at : List ℕ → Taken
taken_at word = if bytes_eq word (codes "sync") then a_sync else if bytes_eq word (codes "create") then a_create else a_drop

abbrev taken_of : TakeText → Taken
taken_of turn.Sync = a_sync
taken_of (turn.Create store mode prefix) = a_create
taken_of (turn.Drop store) = a_drop

-- what is taken begins with one word
abbrev take_word : TakeText → List ℕ
take_word turn.Sync = codes "sync"
take_word (turn.Create store mode prefix) = codes "create"
take_word (turn.Drop store) = codes "drop"

abbrev behind_take : TakeText → List Word
behind_take turn.Sync = []
behind_take (turn.Create store mode prefix) = name store ∷ mode_of mode ∷ number prefix ∷ []
behind_take (turn.Drop store) = name store ∷ []

take_first : (wish : TakeText) → taking wish ≡ this (take_word wish) ∷ behind_take wish
take_first turn.Sync = refl
take_first (turn.Create store mode prefix) = refl
take_first (turn.Drop store) = refl

taken_at-take_word : (wish : TakeText) → taken_at (take_word wish) ≡ taken_of wish
taken_at-take_word turn.Sync = refl
taken_at-take_word (turn.Create store mode prefix) = refl
taken_at-take_word (turn.Drop store) = refl

one_take_kind : (one other : TakeText) → taken_of one ≡ taken_of other → map kind (taking one) ≡ map kind (taking other)
one_take_kind turn.Sync turn.Sync e = refl
one_take_kind (turn.Create s m p) (turn.Create t n q) e = refl
one_take_kind (turn.Drop s) (turn.Drop t) e = refl
one_take_kind one other e = cc e

pub take_begun : (wish : TakeText) (words : List (List ℕ)) → AreWords (taking wish) words → (rest : List (List ℕ)) × (words ≡ take_word wish ∷ rest)
take_begun wish words says =
    let begun = begun_with (take_word wish) (behind_take wish) words (subst (λ (w : List Word). AreWords w words) (take_first wish) says) in
    (begun.0, begun.1.0)

take_kinds : (one other : TakeText) (words : List (List ℕ)) → AreWords (this (codes "take") ∷ taking one) words
    → AreWords (this (codes "take") ∷ taking other) words
    → map kind (this (codes "take") ∷ taking one) ≡ map kind (this (codes "take") ∷ taking other)
take_kinds one other [] p q = absurd p
take_kinds one other (word ∷ words) p q =
    let a = take_begun one words p.1 in
    let b = take_begun other words q.1 in
    let same : take_word one ∷ a.0 ≡ take_word other ∷ b.0 = sym a.1 ∙ b.1 in
    let first : take_word one ≡ take_word other = cc same in
    ap (λ (kinds : List Kind). kind (this (codes "take")) ∷ kinds) (one_take_kind one other (sym (taken_at-take_word one) ∙ ap taken_at first ∙ taken_at-take_word other))

-- words that begin with the same verb stand for words of the same kinds
pub same_kinds : (said : Verb) (of other : Fields said) (words : List (List ℕ)) → Says (made said of) words → Says (made said other) words
    → map kind (spelling (made said of)) ≡ map kind (spelling (made said other))
same_kinds verb.CreateStore of other words p q = refl
same_kinds verb.DropStore of other words p q = refl
same_kinds verb.Stores of other words p q = refl
same_kinds verb.Begin of other words p q = refl
same_kinds verb.Put of other words p q = refl
same_kinds verb.Del of other words p q = refl
same_kinds verb.Pdel of other words p q = refl
same_kinds verb.Get of other words p q = refl
same_kinds verb.Commit of other words p q = refl
same_kinds verb.Abort of other words p q = refl
same_kinds verb.Cursor of other words p q = refl
same_kinds verb.Seek of other words p q = refl
same_kinds verb.SeekRange of other words p q = refl
same_kinds verb.Read of other words p q = refl
same_kinds verb.Update of other words p q = refl
same_kinds verb.CloseCursor of other words p q = refl
same_kinds verb.Take of other words p q = take_kinds of other words p q
same_kinds verb.Write of other words p q = refl
same_kinds verb.End of other words p q = refl
same_kinds verb.Sync of other words p q = refl
same_kinds verb.Info of other words p q = refl
same_kinds verb.Reopen of other words p q = refl

one_taking : (of other : TakeText) → taking of ≡ taking other → of ≡ other
one_taking turn.Sync turn.Sync same = refl
one_taking (turn.Create s m p) (turn.Create t n q) same =
    let names : s ≡ t = cc same in let modes : m ≡ n = cc same in let numbers : p ≡ q = cc same in
    λ i. turn.Create (names i) (modes i) (numbers i)
one_taking (turn.Drop s) (turn.Drop t) same = let names : s ≡ t = cc same in ap (λ (name : List ℕ). turn.Drop name) names
one_taking of other same = cc same

-- words of a verb make one line
pub one_made : (said : Verb) (of other : Fields said) → spelling (made said of) ≡ spelling (made said other) → made said of ≡ made said other
one_made verb.CreateStore of other same =
    let p0 : of.0 ≡ other.0 = cc same in
    let p1 : of.1 ≡ other.1 = cc same in
    let p2 : of.2 ≡ other.2 = cc same in
    λ i. CreateStore (p0 i) (p1 i) (p2 i)
one_made verb.DropStore of other same =
    let p0 : of ≡ other = cc same in
    λ i. DropStore (p0 i)
one_made verb.Stores of other same = refl
one_made verb.Begin of other same =
    let p0 : of ≡ other = cc same in
    λ i. Begin (p0 i)
one_made verb.Put of other same =
    let p0 : of.0 ≡ other.0 = cc same in
    let p1 : of.1 ≡ other.1 = cc same in
    let p2 : of.2 ≡ other.2 = cc same in
    let p3 : of.3 ≡ other.3 = cc same in
    λ i. Put (p0 i) (p1 i) (p2 i) (p3 i)
one_made verb.Del of other same =
    let p0 : of.0 ≡ other.0 = cc same in
    let p1 : of.1 ≡ other.1 = cc same in
    let p2 : of.2 ≡ other.2 = cc same in
    λ i. Del (p0 i) (p1 i) (p2 i)
one_made verb.Pdel of other same =
    let p0 : of.0 ≡ other.0 = cc same in
    let p1 : of.1 ≡ other.1 = cc same in
    let p2 : of.2 ≡ other.2 = cc same in
    λ i. Pdel (p0 i) (p1 i) (p2 i)
one_made verb.Get of other same =
    let p0 : of.0 ≡ other.0 = cc same in
    let p1 : of.1 ≡ other.1 = cc same in
    let p2 : of.2 ≡ other.2 = cc same in
    λ i. Get (p0 i) (p1 i) (p2 i)
one_made verb.Commit of other same =
    let p0 : of ≡ other = cc same in
    λ i. Commit (p0 i)
one_made verb.Abort of other same =
    let p0 : of ≡ other = cc same in
    λ i. Abort (p0 i)
one_made verb.Cursor of other same =
    let p0 : of.0 ≡ other.0 = cc same in
    let p1 : of.1 ≡ other.1 = cc same in
    let p2 : of.2 ≡ other.2 = cc same in
    let p3 : of.3 ≡ other.3 = cc same in
    let p4 : of.4 ≡ other.4 = cc same in
    λ i. Cursor (p0 i) (p1 i) (p2 i) (p3 i) (p4 i)
one_made verb.Seek of other same =
    let p0 : of.0 ≡ other.0 = cc same in
    let p1 : of.1 ≡ other.1 = cc same in
    λ i. Seek (p0 i) (p1 i)
one_made verb.SeekRange of other same =
    let p0 : of.0 ≡ other.0 = cc same in
    let p1 : of.1 ≡ other.1 = cc same in
    let p2 : of.2 ≡ other.2 = cc same in
    λ i. SeekRange (p0 i) (p1 i) (p2 i)
one_made verb.Read of other same =
    let p0 : of ≡ other = cc same in
    λ i. Read (p0 i)
one_made verb.Update of other same =
    let p0 : of ≡ other = cc same in
    λ i. Update (p0 i)
one_made verb.CloseCursor of other same =
    let p0 : of ≡ other = cc same in
    λ i. CloseCursor (p0 i)
one_made verb.Take of other same =
    let taken : taking of ≡ taking other = cc same in ap (λ (wish : TakeText). Take wish) (one_taking of other taken)
one_made verb.Write of other same = refl
one_made verb.End of other same = refl
one_made verb.Sync of other same = refl
one_made verb.Info of other same = refl
one_made verb.Reopen of other same = refl
