-- What a word stands for is one thing, and words stand for one list of things.
use Rattle.std.proofs.Common.{◌≡◌, ℕ, ◌<◌, ◌≤◌, Bool, true, false, ◌&&◌, List, [], ◌∷◌, ◌++◌, inl, inr, codes, decimal, length, map, get_or, zero, suc, Ok, refl, ap, sym, ◌∙◌, subst, arith}
use Rattle.std.specs.List.{list_all}
use Rattle.std.specs.Str.{bytes_eq}
use Rattle.std.proofs.lemmas.Bool.{false≢true}
use Rattle.std.proofs.lemmas.Fmt.{decimal_injective}
use Rattle.hex.specs.Hex.{decode_of}
use denote.Ref.{Bor}
use Rattle.hse_rows.specs.writes.Names.{IsName, is_name_byte}
use Rattle.hse_rows.specs.declared.store.Mode.{Mode}
use Rattle.hse_rows.specs.declared.store.Mode.TheVariants.{Plain, Tx}
use Rattle.shell_text.specs.declared.line.Actor.{Actor}
use Rattle.shell_text.specs.declared.line.Actor.TheVariants.{At, Name}
use Rattle.shell_text.specs.Grammar.{AreWords}
use Rattle.shell_text.specs.Texts.{texts}
use Rattle.shell_text.specs.Words.{mode_word, direction_word, is_plain, IsHexed, IsItem, IsNameWord, IsActor, Word, no_word, this, actor_of, name, mode_of, number, direction, item, IsWord}
use Rattle.shell_text.proofs.SpacedLemmas.{AreWhole, is_whole, and_true, name_is_whole, mode_is_whole, actor_is_whole, number_is_whole, direction_is_whole, item_is_whole}

-- ---- words in a row

pub begun_with : (text : List ℕ) (more : List Word) (words : List (List ℕ)) → AreWords (this text ∷ more) words
    → (rest : List (List ℕ)) × ((words ≡ text ∷ rest) × AreWords more rest)
begun_with text more [] says = absurd says
begun_with text more (word ∷ rest) says = (rest, (ap (λ (w : List ℕ). w ∷ rest) says.0, says.1))

pub as_many : (meant : List Word) (words : List (List ℕ)) → AreWords meant words → length words ≡ length meant
as_many [] [] says = refl
as_many [] (word ∷ words) says = absurd says
as_many (one ∷ more) [] says = absurd says
as_many (one ∷ more) (word ∷ words) says = ap suc (as_many more words says.1)

-- what the word at a place stands for
pub word_at : (meant : List Word) (words : List (Bor (List ℕ))) (place : ℕ) (d : Bor (List ℕ)) → AreWords meant (texts words)
    → place < length words → IsWord (get_or meant place no_word) (get_or words place d).now
word_at meant [] place d says below = absurd (omega (arith, below))
word_at [] (word ∷ words) place d says below = absurd says
word_at (one ∷ more) (word ∷ words) zero d says below = says.0
word_at (one ∷ more) (word ∷ words) (suc place) d says below = word_at more words place d says.1 (omega (arith, below))

-- ---- whole words

abbrev pub is_whole_word : Word → Bool
is_whole_word no_word = true
is_whole_word (this text) = is_whole text
is_whole_word (actor_of actor) = true
is_whole_word (name text) = true
is_whole_word (mode_of mode) = true
is_whole_word (number value) = true
is_whole_word (direction reverse) = true
is_whole_word (item bytes) = true

-- the words that stand for themselves have no space
abbrev pub are_whole : List Word → Bool
are_whole meant = list_all is_whole_word meant

one_whole : (meant : Word) (word : List ℕ) → is_whole_word meant ≡ true → IsWord meant word → is_whole word ≡ true
one_whole no_word word whole is = absurd is
one_whole (this text) word whole is = ap is_whole is ∙ whole
one_whole (actor_of actor) word whole is = actor_is_whole word actor is
one_whole (name text) word whole is = ap is_whole is.0 ∙ name_is_whole text is.1
one_whole (mode_of mode) word whole is = ap is_whole is ∙ mode_is_whole mode
one_whole (number value) word whole is = ap is_whole is.0 ∙ number_is_whole value is.1
one_whole (direction reverse) word whole is = ap is_whole is ∙ direction_is_whole reverse
one_whole (item bytes) word whole is = item_is_whole word bytes is

pub words_whole : (meant : List Word) (words : List (List ℕ)) → are_whole meant ≡ true → AreWords meant words → AreWhole words
words_whole [] [] whole says = tt
words_whole [] (word ∷ words) whole says = absurd says
words_whole (one ∷ more) [] whole says = absurd says
words_whole (one ∷ more) (word ∷ words) whole says =
    let both = and_true _ _ whole in
    (one_whole one word both.0 says.0, words_whole more words both.1 says.1)

-- ---- one thing a word

one_mode : (one other : Mode) → mode_word one ≡ mode_word other → one ≡ other
one_mode Plain Plain same = refl
one_mode Plain Tx same = cc
one_mode Tx Plain same = cc
one_mode Tx Tx same = refl

one_direction : (one other : Bool) → direction_word one ≡ direction_word other → one ≡ other
one_direction false false same = refl
one_direction false true same = absurd (false≢true (ap (λ (word : List ℕ). bytes_eq word (codes "rev")) same))
one_direction true false same = absurd (false≢true (ap (λ (word : List ℕ). bytes_eq word (codes "fwd")) same))
one_direction true true same = refl

no_name_at : (word text : List ℕ) → word ≡ codes "@" → IsNameWord word text → ⊥
no_name_at word text at is =
    let same : text ≡ codes "@" = sym is.0 ∙ at in
    let letters : list_all is_name_byte (codes "@") ≡ true = subst (λ (t : List ℕ). list_all is_name_byte t ≡ true) same is.1.letters in
    false≢true letters

one_actor : (word : List ℕ) (one other : Actor) → IsActor word one → IsActor word other → one ≡ other
one_actor word At At p q = refl
one_actor word At (Name text) p q = absurd (no_name_at word text p q)
one_actor word (Name text) At p q = absurd (no_name_at word text q p)
one_actor word (Name one) (Name other) p q = ap Name (sym p.0 ∙ q.0)

plain_or_hexed : (word bytes : List ℕ) → is_plain word ≡ true → IsHexed word bytes → ⊥
plain_or_hexed word bytes plain hexed =
    let not_plain : is_plain (codes "x:" ++ hexed.0) ≡ true = subst (λ (w : List ℕ). is_plain w ≡ true) hexed.1.0 plain in
    false≢true (and_true _ _ (and_true _ _ not_plain).1).1

one_item : (word one other : List ℕ) → IsItem word one → IsItem word other → one ≡ other
one_item word one other (inl a) (inl b) = a.1 ∙ sym b.1
one_item word one other (inl a) (inr b) = absurd (plain_or_hexed word other a.0 b)
one_item word one other (inr a) (inl b) = absurd (plain_or_hexed word one b.0 a)
one_item word one other (inr a) (inr b) =
    let spelled : codes "x:" ++ a.0 ≡ codes "x:" ++ b.0 = sym a.1.0 ∙ b.1.0 in
    let digits : a.0 ≡ b.0 = cc spelled in
    let read : ◌≡◌ (Ok one) (Ok other) = sym a.1.1 ∙ ap decode_of digits ∙ b.1.1 in cc read

pub data Kind : Type 0 where
  of_none : Kind
  of_this : Kind
  of_actor : Kind
  of_name : Kind
  of_mode : Kind
  of_number : Kind
  of_direction : Kind
  of_item : Kind

abbrev pub kind : Word → Kind
kind no_word = of_none
kind (this text) = of_this
kind (actor_of actor) = of_actor
kind (name text) = of_name
kind (mode_of mode) = of_mode
kind (number value) = of_number
kind (direction reverse) = of_direction
kind (item bytes) = of_item

one_word : (one other : Word) (word : List ℕ) → kind one ≡ kind other → IsWord one word → IsWord other word → one ≡ other
one_word no_word no_word word e p q = refl
one_word (this one) (this other) word e p q = ap this (sym p ∙ q)
one_word (actor_of one) (actor_of other) word e p q = ap actor_of (one_actor word one other p q)
one_word (name one) (name other) word e p q = ap name (sym p.0 ∙ q.0)
one_word (mode_of one) (mode_of other) word e p q = ap mode_of (one_mode one other (sym p ∙ q))
one_word (number one) (number other) word e p q = ap number (decimal_injective one other p.1 q.1 (sym p.0 ∙ q.0))
one_word (direction one) (direction other) word e p q = ap direction (one_direction one other (sym p ∙ q))
one_word (item one) (item other) word e p q = ap item (one_item word one other p q)
one_word one other word e p q = cc e

-- words stand for one list of things, where the kinds are known
pub one_row : (one other : List Word) (words : List (List ℕ)) → map kind one ≡ map kind other → AreWords one words → AreWords other words
    → one ≡ other
one_row [] [] words e p q = refl
one_row [] (b ∷ other) words e p q = cc e
one_row (a ∷ one) [] words e p q = cc e
one_row (a ∷ one) (b ∷ other) [] e p q = absurd p
one_row (a ∷ one) (b ∷ other) (word ∷ words) e p q =
    let first : kind a ≡ kind b = cc e in
    let more : map kind one ≡ map kind other = cc e in
    let head = one_word a b word first p.0 q.0 in
    let tail = one_row one other words more p.1 q.1 in
    λ i. head i ∷ tail i
