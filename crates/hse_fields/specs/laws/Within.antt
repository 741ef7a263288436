-- A refused field lies in what was read, and what is left is a part of it.
use Rattle.std.specs.Prelude.{◌≡◌, ℕ, zero, suc, ◌+◌, ◌≤◌, Bool, true, false, List, ◌∷◌, length, take, drop, Option, Some, None, Result, Ok, Err, nat_lt, nat_le, ◌==◌, ◌&&◌}
use Rattle.std.proofs.Common.{arith, cond}
use Rattle.std.proofs.lemmas.List.{length-drop}
use Rattle.byteorder.specs.Endian.{big_number}
use Rattle.hse_fields.specs.LogText.{Kind, put, del, pdel, Change}
use Rattle.hse_fields.specs.LogOrder.{kind_may_follow, store_may_follow}
use Rattle.hse_fields.specs.Fields.{number_of, bytes_of}
use Rattle.hse_fields.specs.LogReading.{◌>>=◌, ensure, given, size_of, sized_of, kind_with, kind_of, value_of, name_may_follow, name_in_limits, name_fits, name_of, change_of, more_changes_of, changes_of, Rule, has_room, entry_of, entries_of, payload_of}
use Rattle.hse_fields.specs.laws.Changes.{from_value, from_name, from_limits, from_order, from_size, from_store, from_kind}
use Rattle.hse_fields.specs.laws.Payloads.{entry, from_changes, from_room, from_next, from_number}

-- a reading of at most so many bytes
abbrev pub Within : {A : Type 0} → ℕ → Result (A × List ℕ) ℕ → Type 0
Within n (Ok x) = length x.1 ≤ n
Within n (Err left) = left ≤ n

wider : {A : Type 0} (m n : ℕ) (r : Result (A × List ℕ) ℕ) → m ≤ n → Within m r → Within n r
wider m n (Ok x) le w = omega (arith, w)
wider m n (Err left) le w = omega (arith, w)

pub then : {A B : Type 0} (n : ℕ) (r : Result (A × List ℕ) ℕ) (f : A × List ℕ → Result (B × List ℕ) ℕ) → Within n r
    → ((x : A × List ℕ) → length x.1 ≤ n → Within n (f x)) → Within n (r >>= f)
then n (Ok x) f w more = more x w
then n (Err left) f w more = w

pub ensured : {A : Type 0} (n left : ℕ) (test : Bool) (f : Unit {0} → Result (A × List ℕ) ℕ) → left ≤ n → Within n (f tt)
    → Within n (ensure test left >>= f)
ensured n left true f le w = w
ensured n left false f le w = le

given_within : {A B : Type 0} (n left : ℕ) (o : Option A) (f : A → Result (B × List ℕ) ℕ) → left ≤ n → ((x : A) → Within n (f x))
    → Within n (given o left >>= f)
given_within n left (Some x) f le w = w x
given_within n left None f le w = le

cut : {A : Type 0} (test : Bool) (bytes : List ℕ) (value : A) (m : ℕ) → Within (length bytes) (cond test (Err (length bytes)) (Ok (value, drop m bytes)))
cut true bytes value m = omega arith
cut false bytes value m = omega (arith, length-drop m bytes)

pub number_within : (m n : ℕ) (bytes : List ℕ) → length bytes ≤ n → Within n (number_of m bytes)
number_within m n bytes le = wider (length bytes) n (number_of m bytes) le (cut (nat_lt (length bytes) m) bytes (big_number m (take m bytes)) m)

pub bytes_within : (m n : ℕ) (bytes : List ℕ) → length bytes ≤ n → Within n (bytes_of m bytes)
bytes_within m n bytes le = wider (length bytes) n (bytes_of m bytes) le (cut (nat_lt (length bytes) m) bytes (take m bytes) m)

size_within : (width least most n : ℕ) (bytes : List ℕ) → length bytes ≤ n → Within n (size_of width least most bytes)
unfolding size_of
size_within width least most n bytes le =
    then n (number_of width bytes) (λ size. ensure (nat_le least size.0 && nat_le size.0 most) (length bytes) >>= λ within. Ok (size.0, size.1))
    (number_within width n bytes le)
    (λ size h. ensured n (length bytes) (nat_le least size.0 && nat_le size.0 most) (λ within. Ok (size.0, size.1)) le h)

pub sized_within : (width least most n : ℕ) (bytes : List ℕ) → length bytes ≤ n → Within n (sized_of width least most bytes)
unfolding sized_of
sized_within width least most n bytes le =
    then n (size_of width least most bytes) (λ size. bytes_of size.0 size.1) (size_within width least most n bytes le)
    (λ size h. bytes_within size.0 n size.1 h)

kind_within : (last : Option Change) (n : ℕ) (bytes : List ℕ) → length bytes ≤ n → Within n (kind_of last bytes)
unfolding kind_of
kind_within last n bytes le =
    then n (number_of 1 bytes) (λ byte. given (kind_with byte.0) (length bytes) >>= λ kind. (ensure (kind_may_follow last kind) (length bytes) >>= λ in_order. Ok (kind, byte.1)))
    (number_within 1 n bytes le)
    (λ byte fits. given_within n (length bytes) (kind_with byte.0) (λ kind. ensure (kind_may_follow last kind) (length bytes) >>= λ in_order. Ok (kind, byte.1)) le
    (λ kind. ensured n (length bytes) (kind_may_follow last kind) (λ in_order. Ok (kind, byte.1)) le fits))

value_within : (kind : Kind) (most n : ℕ) (bytes : List ℕ) → length bytes ≤ n → Within n (value_of kind most bytes)
unfolding value_of
value_within put most n bytes le = sized_within 4 0 most n bytes le
value_within del most n bytes le = le
value_within pdel most n bytes le = le

name_within : (prefix_fits : ℕ → ℕ → Bool) (last : Option Change) (left : ℕ) (kind : Kind) (store n : ℕ) (bytes : List ℕ) → left ≤ n → length bytes ≤ n
    → Within n (name_of prefix_fits last left kind store bytes)
unfolding name_of
name_within prefix_fits last left kind store n bytes le h =
    then n (number_of 2 bytes) (from_size prefix_fits last left kind store bytes) (number_within 2 n bytes h)
    (λ size i. ensured n left (name_may_follow last kind store size.0 size.1) (λ in_order. from_order prefix_fits bytes kind store size) le
    (ensured n (length bytes) (name_in_limits kind size.0) (λ within. from_limits prefix_fits bytes kind store size) h
    (ensured n (length bytes) (name_fits prefix_fits kind store size.0) (λ allowed. bytes_of size.0 size.1) h (bytes_within size.0 n size.1 i))))

-- from behind a change's store on
store_within : (prefix_fits : ℕ → ℕ → Bool) (most : ℕ) (last : Option Change) (n : ℕ) (bytes : List ℕ) (kind : Kind) (store : ℕ × List ℕ)
    → length bytes ≤ n → length store.1 ≤ n → Within n (from_store prefix_fits most last bytes kind store)
store_within prefix_fits most last n bytes kind store le h =
    ensured n (length bytes) (store_may_follow last kind store.0) (λ in_order. name_of prefix_fits last (length bytes) kind store.0 store.1 >>= from_name most kind store.0) le
    (then n (name_of prefix_fits last (length bytes) kind store.0 store.1) (from_name most kind store.0) (name_within prefix_fits last (length bytes) kind store.0 n store.1 le h)
    (λ name i. then n (value_of kind most name.1) (from_value kind store.0 name.0) (value_within kind most n name.1 i) (λ value j. j)))

pub change_within : (prefix_fits : ℕ → ℕ → Bool) (most : ℕ) (last : Option Change) (n : ℕ) (bytes : List ℕ) → length bytes ≤ n → Within n (change_of prefix_fits most last bytes)
unfolding change_of
change_within prefix_fits most last n bytes le =
    then n (kind_of last bytes) (from_kind prefix_fits most last bytes) (kind_within last n bytes le)
    (λ kind h. then n (number_of 8 kind.1) (from_store prefix_fits most last bytes kind.0) (number_within 8 n kind.1 h)
    (λ store i. store_within prefix_fits most last n bytes kind.0 store le i))

more_changes_within : (prefix_fits : ℕ → ℕ → Bool) (most : ℕ) (last : Option Change) (count n : ℕ) (bytes : List ℕ) → length bytes ≤ n → Within n (more_changes_of prefix_fits most last count bytes)
unfolding more_changes_of
more_changes_within prefix_fits most last zero n bytes le = le
more_changes_within prefix_fits most last (suc count) n bytes le =
    then n (change_of prefix_fits most last bytes) (λ first. more_changes_of prefix_fits most (Some first.0) count first.1 >>= λ others. Ok (first.0 ∷ others.0, others.1))
    (change_within prefix_fits most last n bytes le)
    (λ first h. then n (more_changes_of prefix_fits most (Some first.0) count first.1) (λ others. Ok (first.0 ∷ others.0, others.1))
    (more_changes_within prefix_fits most (Some first.0) count n first.1 h) (λ others k. k))

pub changes_within : (prefix_fits : ℕ → ℕ → Bool) (most n : ℕ) (bytes : List ℕ) → length bytes ≤ n → Within n (changes_of prefix_fits most bytes)
unfolding changes_of
changes_within prefix_fits most n bytes le =
    then n (number_of 4 bytes) (λ count. ensure (nat_lt 0 count.0) (length bytes) >>= λ some. more_changes_of prefix_fits most None count.0 count.1)
    (number_within 4 n bytes le)
    (λ count h. ensured n (length bytes) (nat_lt 0 count.0) (λ some. more_changes_of prefix_fits most None count.0 count.1) le (more_changes_within prefix_fits most None count.0 n count.1 h))

entry_within : {S : Type 0} (rule : Rule S) (most : ℕ) (state : S) (n : ℕ) (bytes : List ℕ) → length bytes ≤ n → Within n (entry_of rule most state bytes)
unfolding entry_of
entry_within rule most state n bytes le =
    then n (number_of 8 bytes) (from_number rule most state bytes) (number_within 8 n bytes le)
    (λ number h. ensured n (length bytes) (rule.number_fits state number.0) (λ next. from_next rule most state bytes number) le
    (ensured n (length bytes) (has_room rule state number.0 number.1) (λ room. from_room rule most state bytes number) le
    (then n (changes_of rule.prefix_fits most number.1) (from_changes rule state bytes number.0)
    (changes_within rule.prefix_fits most n number.1 h)
    (λ changes i. given_within n (length bytes) (rule.after state (entry number.0 changes.0)) (λ after. Ok ((entry number.0 changes.0, after), changes.1)) le (λ after. i)))))

entries_within : {S : Type 0} (rule : Rule S) (most : ℕ) (state : S) (count n : ℕ) (bytes : List ℕ) → length bytes ≤ n → Within n (entries_of rule most state count bytes)
unfolding entries_of
entries_within rule most state zero n bytes le = le
entries_within rule most state (suc count) n bytes le =
    then n (entry_of rule most state bytes) (λ first. entries_of rule most first.0.1 count first.1 >>= λ others. Ok ((first.0.0 ∷ others.0.0, others.0.1), others.1))
    (entry_within rule most state n bytes le)
    (λ first h. then n (entries_of rule most first.0.1 count first.1) (λ others. Ok ((first.0.0 ∷ others.0.0, others.0.1), others.1))
    (entries_within rule most first.0.1 count n first.1 h) (λ others k. k))

-- where a payload is refused, in bytes before the end of its batch
abbrev InBatch : {A : Type 0} → ℕ → Result A ℕ → Type 0
InBatch n (Ok x) = Unit {0}
InBatch n (Err left) = left ≤ 4 + n

into_batch : {A B : Type 0} (n : ℕ) (r : Result (A × List ℕ) ℕ) (f : A × List ℕ → Result B ℕ) → Within n r
    → ((x : A × List ℕ) → length x.1 ≤ n → InBatch n (f x)) → InBatch n (r >>= f)
into_batch n (Ok x) f w more = more x w
into_batch n (Err left) f w more = omega (arith, w)

ensured_in_batch : {A : Type 0} (n left : ℕ) (test : Bool) (f : Unit {0} → Result A ℕ) → left ≤ 4 + n → InBatch n (f tt)
    → InBatch n (ensure test left >>= f)
ensured_in_batch n left true f le w = w
ensured_in_batch n left false f le w = le

all_in_batch : {S : Type 0} (rule : Rule S) (most : ℕ) (state : S) (bytes : List ℕ) → InBatch (length bytes) (payload_of rule most state bytes)
unfolding payload_of
all_in_batch rule most state bytes =
    into_batch (length bytes) (number_of 4 bytes) (λ count. ensure (nat_lt 0 count.0) (length bytes) >>= λ some. (entries_of rule most state count.0 count.1 >>= λ read. (ensure (length read.1 == 0) (4 + length bytes) >>= λ ended. Ok read.0)))
    (number_within 4 (length bytes) bytes (omega arith))
    (λ count h. ensured_in_batch (length bytes) (length bytes) (nat_lt 0 count.0) (λ some. entries_of rule most state count.0 count.1 >>= λ read. (ensure (length read.1 == 0) (4 + length bytes) >>= λ ended. Ok read.0)) (omega arith)
    (into_batch (length bytes) (entries_of rule most state count.0 count.1) (λ read. ensure (length read.1 == 0) (4 + length bytes) >>= λ ended. Ok read.0)
    (entries_within rule most state count.0 (length bytes) count.1 h)
    (λ read i. ensured_in_batch (length bytes) (4 + length bytes) (length read.1 == 0) (λ ended. Ok read.0) (omega arith) tt)))

at_err : {A : Type 0} (n left : ℕ) (r : Result A ℕ) → r ≡ Err left → InBatch n r → left ≤ 4 + n
at_err n left (Ok x) e w = absurd cc
at_err n left (Err other) e w = let same : left ≡ other = cc in omega (arith, same, w)

-- A payload is refused within its batch.
pub payload_within : {S : Type 0} (rule : Rule S) (most : ℕ) (state : S) (bytes : List ℕ) (left : ℕ) → payload_of rule most state bytes ≡ Err left
    → left ≤ 4 + length bytes
payload_within rule most state bytes left e = at_err (length bytes) left (payload_of rule most state bytes) e (all_in_batch rule most state bytes)
