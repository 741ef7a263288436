-- Words with single spaces between them are the parts between the spaces.
use Rattle.std.proofs.Common.{◌≡◌, ℕ, ◌+◌, ◌<◌, ◌≤◌, ◌^◌, ◌%◌, ◌==◌, ◌≢◌, ◌&&◌, Bool, true, false, not, List, [], ◌∷◌, ◌++◌, inl, inr, decimal, refl, ap, ◌∙◌, arith}
use Rattle.std.specs.List.{slice_split, list_all, All, AllByRecursion}
use Rattle.std.proofs.lemmas.Bool.Decides.{nat_tests}
use Rattle.std.proofs.lemmas.Fmt.{decimal_by_steps}
use Rattle.std.proofs.lemmas.Bool.{false≢true}
use Rattle.std.proofs.lemmas.List.Folds.{list_all-append}
use Rattle.std.proofs.lemmas.List.Splits.{slice_split_none, slice_split_at}
use Rattle.std.proofs.lemmas.List.Sums.{AllPass-from_list_all, list_all-from_AllPass}
use Rattle.hex.specs.Hex.{is_hex_digit}
use Rattle.hex.proofs.HexLemmas.{decode_of-ok}
use Rattle.hse_rows.specs.writes.Names.{IsName, is_name_byte}
use Rattle.hse_rows.specs.declared.store.Mode.{Mode}
use Rattle.hse_rows.specs.declared.store.Mode.TheVariants.{Plain, Tx}
use Rattle.shell_text.specs.declared.line.Actor.{Actor}
use Rattle.shell_text.specs.declared.line.Actor.TheVariants.{At, Name}
use Rattle.shell_text.specs.Words.{spaced, is_plain, is_printable, IsHexed, IsItem, mode_word, direction_word, IsActor}

abbrev pub is_space : ℕ → Bool
is_space byte = byte == 32

-- the parts of a line between its spaces
abbrev pub parts_of : List ℕ → List (List ℕ)
parts_of line = slice_split is_space line

-- no byte of the word is a space, as a test
abbrev pub is_whole : List ℕ → Bool
is_whole word = list_all (λ byte. not (is_space byte)) word

abbrev pub AreWhole : List (List ℕ) → Type 0
AreWhole words = AllByRecursion (λ word. is_whole word ≡ true) words

-- a test that holds wherever another one does holds of each byte where that one does
all_weaker : (p q : ℕ → Bool) → ((byte : ℕ) → p byte ≡ true → q byte ≡ true) → (word : List ℕ)
    → list_all p word ≡ true → list_all q word ≡ true
all_weaker p q weaker word all =
    list_all-from_AllPass q word (λ k d below. weaker _ (AllPass-from_list_all p word all k d below))

not_true : (test : Bool) → not test ≡ true → test ≡ false
not_true true h = absurd (false≢true h)
not_true false h = refl

pub and_true : (one other : Bool) → (one && other) ≡ true → (one ≡ true) × (other ≡ true)
and_true true other h = (refl, h)
and_true false other h = absurd (false≢true h)

no_space : (word : List ℕ) → is_whole word ≡ true → All (λ byte. is_space byte ≡ false) word
no_space word whole = λ k d below. not_true _ (AllPass-from_list_all (λ byte. not (is_space byte)) word whole k d below)

pub parts_of-spaced : (words : List (List ℕ)) → words ≢ [] → AreWhole words → parts_of (spaced words) ≡ words
parts_of-spaced [] some whole = absurd (some refl)
parts_of-spaced (word ∷ []) some whole = slice_split_none is_space word (no_space word whole.0)
parts_of-spaced (word ∷ next ∷ words) some whole =
    let more : (next ∷ words) ≢ [] = λ e. cc in
    slice_split_at is_space word 32 (spaced (next ∷ words)) (no_space word whole.0) refl
    ∙ ap (λ (found : List (List ℕ)). word ∷ found) (parts_of-spaced (next ∷ words) more whole.1)

name_byte : (byte : ℕ) → is_name_byte byte ≡ true → not (is_space byte) ≡ true
name_byte byte is = grind (arith, nat_tests)

printable_byte : (byte : ℕ) → is_printable byte ≡ true → not (is_space byte) ≡ true
printable_byte byte is = grind (arith, nat_tests)

hex_byte : (byte : ℕ) → is_hex_digit byte ≡ true → not (is_space byte) ≡ true
hex_byte byte is = grind (arith, nat_tests)

pub name_is_whole : (name : List ℕ) → IsName name → is_whole name ≡ true
name_is_whole name is = all_weaker is_name_byte _ name_byte name is.letters

pub mode_is_whole : (mode : Mode) → is_whole (mode_word mode) ≡ true
mode_is_whole Plain = refl
mode_is_whole Tx = refl

pub direction_is_whole : (reverse : Bool) → is_whole (direction_word reverse) ≡ true
direction_is_whole false = refl
direction_is_whole true = refl

pub actor_is_whole : (word : List ℕ) (actor : Actor) → IsActor word actor → is_whole word ≡ true
actor_is_whole word At is = ap is_whole is
actor_is_whole word (Name name) is = ap is_whole is.0 ∙ name_is_whole name is.1

pub number_is_whole : (number : ℕ) → number < 2 ^ 64 → is_whole (decimal number) ≡ true
number_is_whole number small = decimal_by_steps (λ n digits. is_whole digits ≡ true) one_digit more_digits number small
  where
    one_digit : (n : ℕ) → n < 10 → is_whole ((48 + n) ∷ []) ≡ true
    one_digit n small = grind (arith, nat_tests)

    more_digits : (n : ℕ) (digits : List ℕ) → 10 ≤ n → is_whole digits ≡ true → is_whole (digits ++ ((48 + n % 10) ∷ [])) ≡ true
    more_digits n digits large whole = rw (list_all-append (λ byte. not (is_space byte)) digits ((48 + n % 10) ∷ [])) (rw whole (grind (arith, nat_tests)))

plain_is_whole : (word : List ℕ) → is_plain word ≡ true → is_whole word ≡ true
plain_is_whole word plain = all_weaker is_printable _ printable_byte word
    (and_true _ _ (and_true _ _ plain).1).0

hexed_is_whole : (word bytes : List ℕ) → IsHexed word bytes → is_whole word ≡ true
hexed_is_whole word bytes hexed =
    let digits = decode_of-ok hexed.0 bytes hexed.1.1 in
    rw hexed.1.0 (all_weaker is_hex_digit _ hex_byte hexed.0 (list_all-from_AllPass is_hex_digit hexed.0 digits.1))

pub item_is_whole : (word bytes : List ℕ) → IsItem word bytes → is_whole word ≡ true
item_is_whole word bytes (inl plain) = plain_is_whole word plain.0
item_is_whole word bytes (inr hexed) = hexed_is_whole word bytes hexed
