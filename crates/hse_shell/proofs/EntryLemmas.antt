-- How long entries are, and what they charge.
use Rattle.std.proofs.Common.{◌≡◌, ℕ, ◌+◌, ◌*◌, ◌≤◌, List, [], ◌∷◌, ◌++◌, length, refl, sym, ap, ◌∙◌, arith, length-append, append_assoc}
use Rattle.std.proofs.lemmas.List.{append-nil}
use Rattle.std.proofs.lemmas.List.Concat.{flat_map-append}
use Rattle.std.specs.Prelude.{flat_map}
use Rattle.std.proofs.lemmas.List.Sums.{sum_by-cons, sum_by-append, sum_by_push}
use Rattle.byteorder.specs.Endian.{big_bytes}
use Rattle.hse_shell.specs.Change.{Change, put, del}
use Rattle.hse_fields.specs.LogText as log
use Rattle.wal.specs.Logged.{charge}
use Rattle.wal.specs.Charges.{charges}
use Rattle.hse_shell.specs.LogText.{logged, entry_for, entries_from, entry_text, entries_text, charge_of, charges_of}

put_length : (key value : List ℕ) → length (log.change_text (logged (put key value))) ≡ 15 + length key + length value
put_length key value = simp length-append (omega arith)

del_length : (key : List ℕ) → length (log.change_text (logged (del key))) ≡ 11 + length key
del_length key = simp length-append (omega arith)

-- an entry of one change
one_length : (number : ℕ) (change : Change) → length (entry_text number change) ≡ 12 + length (log.change_text (logged change))
one_length number change = simp length-append (omega arith)

-- an entry's length does not tell its number
pub length-entry_text : (number : ℕ) (change : Change) → length (entry_text number change) ≡ length (entry_text 0 change)
length-entry_text number change = one_length number change ∙ sym (one_length 0 change)

pub charge_of-put : (key value : List ℕ) → charge_of (put key value) ≡ 12 + (15 + length key + length value) + 32
charge_of-put key value = let one = one_length 0 (put key value) in let c = put_length key value in omega arith

pub charge_of-del : (key : List ℕ) → charge_of (del key) ≡ 12 + (11 + length key) + 32
charge_of-del key = let one = one_length 0 (del key) in let c = del_length key in omega arith

pub charge_of-least : (change : Change) → 55 ≤ charge_of change
charge_of-least (put key value) = let h = charge_of-put key value in omega arith
charge_of-least (del key) = let h = charge_of-del key in omega arith

pub charges_of-cons : (change : Change) (changes : List Change) → charges_of (change ∷ changes) ≡ charge_of change + charges_of changes
charges_of-cons change changes = sum_by-cons charge_of change changes

pub charges_of-append : (changes more : List Change) → charges_of (changes ++ more) ≡ charges_of changes + charges_of more
charges_of-append changes more = sum_by-append charge_of changes more

-- one more change
pub charges_of-push : (changes : List Change) (change : Change) → charges_of (changes ++ change ∷ []) ≡ charges_of changes + charge_of change
charges_of-push changes change = sum_by_push charge_of changes change

pub charges_of-least : (changes : List Change) → 55 * length changes ≤ charges_of changes
charges_of-least [] = omega arith
charges_of-least (change ∷ changes) =
    let one = charge_of-least change in let rest = charges_of-least changes in
    omega (arith, charges_of-cons change changes)

-- what the entries of commits charge
pub charges_are : (number : ℕ) (changes : List Change) → charges (entries_from number changes) ≡ charges_of changes
charges_are number [] = refl
charges_are number (change ∷ changes) =
    let rest = charges_are (number + 1) changes in
    let one = length-entry_text number change in
    omega (arith, rest, one, sum_by-cons charge (entry_for number change) (entries_from (number + 1) changes), charges_of-cons change changes)

pub many : (number : ℕ) (changes : List Change) → length (entries_from number changes) ≡ length changes
many number [] = refl
many number (change ∷ changes) = let rest = many (number + 1) changes in omega arith

-- the entry that the code spells
pub put_spelled : (number : ℕ) (key value : List ℕ)
    → big_bytes 8 number ++ (big_bytes 4 1 ++ (1 ∷ (big_bytes 8 1 ++ (big_bytes 2 (length key) ++ (key ++ (big_bytes 4 (length value) ++ value))))))
    ≡ entry_text number (put key value)
put_spelled number key value = simp (append_assoc, append-nil)

pub del_spelled : (number : ℕ) (key : List ℕ)
    → big_bytes 8 number ++ (big_bytes 4 1 ++ (2 ∷ (big_bytes 8 1 ++ (big_bytes 2 (length key) ++ key))))
    ≡ entry_text number (del key)
del_spelled number key =
    let sized : List ℕ = big_bytes 2 (length key) ++ key in
    let one : (2 ∷ (big_bytes 8 1 ++ (sized ++ []))) ++ [] ≡ 2 ∷ (big_bytes 8 1 ++ sized) =
    append-nil (2 ∷ (big_bytes 8 1 ++ (sized ++ []))) ∙ ap (λ (l : List ℕ). 2 ∷ (big_bytes 8 1 ++ l)) (append-nil sized) in
    sym (ap (λ (l : List ℕ). big_bytes 8 number ++ (big_bytes 4 1 ++ l)) one)

-- entries behind others
pub entries_from-append : (number : ℕ) (changes more : List Change)
    → entries_from number (changes ++ more) ≡ entries_from number changes ++ entries_from (number + length changes) more
entries_from-append number [] more = let same : number ≡ number + 0 = omega arith in ap (λ (n : ℕ). entries_from n more) same
entries_from-append number (change ∷ changes) more =
    let place : (number + 1) + length changes ≡ number + length (change ∷ changes) = omega arith in
    ap (λ (es : List log.Entry). entry_for number change ∷ es)
    (entries_from-append (number + 1) changes more ∙ ap (λ (n : ℕ). entries_from (number + 1) changes ++ entries_from n more) place)

pub entries_text-push : (number : ℕ) (changes : List Change) (change : Change)
    → entries_text number (changes ++ change ∷ []) ≡ entries_text number changes ++ entry_text (number + length changes) change
entries_text-push number changes change =
    ap (flat_map log.entry_text) (entries_from-append number changes (change ∷ []))
    ∙ flat_map-append log.entry_text (entries_from number changes) (entry_for (number + length changes) change ∷ [])
    ∙ ap (λ (l : List ℕ). entries_text number changes ++ l) (append-nil (entry_text (number + length changes) change))
