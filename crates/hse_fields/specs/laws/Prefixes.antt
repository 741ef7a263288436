-- What is read where prefixes may have some lengths is read where they may have others, if the stores of its prefix deletes
-- allow those too.
use Rattle.std.specs.Prelude.{◌≡◌, ℕ, zero, suc, ◌+◌, Bool, true, List, ◌∷◌, length, Option, Some, None, Result, Ok, Err, nat_lt, ◌==◌}
use Rattle.std.specs.List.{AllByRecursion}
use Rattle.std.proofs.Common.{refl, ap, subst, sym, ◌∙◌}
use Rattle.hse_fields.specs.LogText.{Kind, Change, Entry}
use Rattle.hse_fields.specs.LogOrder.{store_may_follow}
use Rattle.hse_fields.specs.Fields.{number_of, bytes_of}
use Rattle.hse_fields.specs.LogReading.{◌>>=◌, ensure, given, kind_of, value_of, change, name_may_follow, name_in_limits, name_fits, name_of, change_of, more_changes_of, changes_of, any_changes_of, Rule, comes_with, has_room, entry_of, entries_of, payload_of}
use Rattle.hse_fields.specs.laws.Fields.{bind_ok, ensure_ok, given_ok, ok_is}
use Rattle.hse_fields.specs.laws.Changes.{from_value, from_name, from_limits, from_order, from_size, from_store, from_kind}
use Rattle.hse_fields.specs.laws.Payloads.{entry, from_changes, from_room, from_next, from_number, other_entries_of, ended_of}

-- the same rule with other lengths of prefixes
abbrev pub with_prefixes : {S : Type 0} → Rule S → (ℕ → ℕ → Bool) → Rule S
with_prefixes rule other = record { prefix_fits = other; number_fits = rule.number_fits; after = rule.after }

-- whatever length one rule allows for this change's name the other allows too
abbrev pub AllowsToo : (ℕ → ℕ → Bool) → (ℕ → ℕ → Bool) → Change → Type 0
AllowsToo one other c = (size : ℕ) → name_fits one c.kind c.store size ≡ true → name_fits other c.kind c.store size ≡ true

abbrev pub AllowsAll : (ℕ → ℕ → Bool) → (ℕ → ℕ → Bool) → List Entry → Type 0
AllowsAll one other entries = AllByRecursion (λ (e : Entry). AllByRecursion (AllowsToo one other) e.changes) entries

-- ---- changes

name_reads : (prefix_fits : ℕ → ℕ → Bool) (last : Option Change) (left : ℕ) (kind : Kind) (store : ℕ) (bytes : List ℕ) (size : ℕ) (behind : List ℕ)
    (x : List ℕ × List ℕ) → number_of 2 bytes ≡ Ok (size, behind) → name_may_follow last kind store size behind ≡ true
    → name_in_limits kind size ≡ true → name_fits prefix_fits kind store size ≡ true → bytes_of size behind ≡ Ok x
    → name_of prefix_fits last left kind store bytes ≡ Ok x
unfolding name_of
name_reads prefix_fits last left kind store bytes size behind x first in_order within allowed read = rw (first, in_order, within, allowed) read

name_too : (one other : ℕ → ℕ → Bool) (last : Option Change) (left : ℕ) (kind : Kind) (store : ℕ) (bytes : List ℕ) (x : List ℕ × List ℕ)
    → ((size : ℕ) → name_fits one kind store size ≡ true → name_fits other kind store size ≡ true)
    → name_of one last left kind store bytes ≡ Ok x → name_of other last left kind store bytes ≡ Ok x
unfolding name_of
name_too one other last left kind store bytes x allows e =
    let a = bind_ok (number_of 2 bytes) (from_size one last left kind store bytes) x e in
    let size = a.0 in
    let b = bind_ok (ensure (name_may_follow last kind store size.0 size.1) left) (λ in_order. from_order one bytes kind store size) x a.2 in
    let c = bind_ok (ensure (name_in_limits kind size.0) (length bytes)) (λ within. from_limits one bytes kind store size) x b.2 in
    let d = bind_ok (ensure (name_fits one kind store size.0) (length bytes)) (λ allowed. bytes_of size.0 size.1) x c.2 in
    name_reads other last left kind store bytes size.0 size.1 x a.1 (ensure_ok _ _ _ b.1) (ensure_ok _ _ _ c.1)
    (allows size.0 (ensure_ok _ _ _ d.1)) d.2

change_reads : (prefix_fits : ℕ → ℕ → Bool) (most : ℕ) (last : Option Change) (bytes : List ℕ) (kind : Kind) (behind : List ℕ) (store : ℕ)
    (rest : List ℕ) (name : List ℕ × List ℕ) (value : List ℕ × List ℕ) → kind_of last bytes ≡ Ok (kind, behind)
    → number_of 8 behind ≡ Ok (store, rest) → store_may_follow last kind store ≡ true
    → name_of prefix_fits last (length bytes) kind store rest ≡ Ok name → value_of kind most name.1 ≡ Ok value
    → change_of prefix_fits most last bytes ≡ Ok (change kind store name.0 value.0, value.1)
unfolding change_of
change_reads prefix_fits most last bytes kind behind store rest name value first second in_order third fourth =
    rw (first, second, in_order, third, fourth) refl

change_too : (one other : ℕ → ℕ → Bool) (most : ℕ) (last : Option Change) (bytes : List ℕ) (x : Change × List ℕ) → AllowsToo one other x.0
    → change_of one most last bytes ≡ Ok x → change_of other most last bytes ≡ Ok x
unfolding change_of
change_too one other most last bytes x allows e =
    let a = bind_ok (kind_of last bytes) (from_kind one most last bytes) x e in
    let kind = a.0.0 in
    let b = bind_ok (number_of 8 a.0.1) (from_store one most last bytes kind) x a.2 in
    let store = b.0.0 in
    let c = bind_ok (ensure (store_may_follow last kind store) (length bytes)) (λ in_order. name_of one last (length bytes) kind store b.0.1 >>= from_name most kind store) x b.2 in
    let d = bind_ok (name_of one last (length bytes) kind store b.0.1) (from_name most kind store) x c.2 in
    let v = bind_ok (value_of kind most d.0.1) (from_value kind store d.0.0) x d.2 in
    let is = ok_is (change kind store d.0.0 v.0.0, v.0.1) x v.2 in
    let here : AllowsToo one other (change kind store d.0.0 v.0.0) = subst (λ (y : Change × List ℕ). AllowsToo one other y.0) (sym is) allows in
    change_reads other most last bytes kind a.0.1 store b.0.1 d.0 v.0 a.1 b.1 (ensure_ok _ _ _ c.1)
    (name_too one other last (length bytes) kind store b.0.1 d.0 here d.1) v.1
    ∙ ap (λ (y : Change × List ℕ). Ok y) is

more_read : (prefix_fits : ℕ → ℕ → Bool) (most : ℕ) (last : Option Change) (n : ℕ) (bytes : List ℕ) (first : Change × List ℕ) (others : List Change × List ℕ)
    → change_of prefix_fits most last bytes ≡ Ok first → more_changes_of prefix_fits most (Some first.0) n first.1 ≡ Ok others
    → more_changes_of prefix_fits most last (suc n) bytes ≡ Ok (first.0 ∷ others.0, others.1)
unfolding more_changes_of
more_read prefix_fits most last n bytes first others e f = rw (e, f) refl

more_too : (one other : ℕ → ℕ → Bool) (most : ℕ) (last : Option Change) (n : ℕ) (bytes : List ℕ) (x : List Change × List ℕ)
    → AllByRecursion (AllowsToo one other) x.0 → more_changes_of one most last n bytes ≡ Ok x → more_changes_of other most last n bytes ≡ Ok x
unfolding more_changes_of
more_too one other most last zero bytes x allows e = e
more_too one other most last (suc n) bytes x allows e =
    let a = bind_ok (change_of one most last bytes) (λ first. more_changes_of one most (Some first.0) n first.1 >>= λ others. Ok (first.0 ∷ others.0, others.1)) x e in
    let b = bind_ok (more_changes_of one most (Some a.0.0) n a.0.1) (λ others. Ok (a.0.0 ∷ others.0, others.1)) x a.2 in
    let is = ok_is (a.0.0 ∷ b.0.0, b.0.1) x b.2 in
    let here : AllByRecursion (AllowsToo one other) (a.0.0 ∷ b.0.0) = subst (λ (y : List Change × List ℕ). AllByRecursion (AllowsToo one other) y.0) (sym is) allows in
    more_read other most last n bytes a.0 b.0 (change_too one other most last bytes a.0 here.0 a.1) (more_too one other most (Some a.0.0) n a.0.1 b.0 here.1 b.1)
    ∙ ap (λ (y : List Change × List ℕ). Ok y) is

all_read : (prefix_fits : ℕ → ℕ → Bool) (most : ℕ) (bytes : List ℕ) (n : ℕ) (behind : List ℕ) (x : List Change × List ℕ) → number_of 4 bytes ≡ Ok (n, behind)
    → nat_lt 0 n ≡ true → more_changes_of prefix_fits most None n behind ≡ Ok x → changes_of prefix_fits most bytes ≡ Ok x
unfolding changes_of
all_read prefix_fits most bytes n behind x first some read = rw (first, some) read

changes_too : (one other : ℕ → ℕ → Bool) (most : ℕ) (bytes : List ℕ) (x : List Change × List ℕ) → AllByRecursion (AllowsToo one other) x.0
    → changes_of one most bytes ≡ Ok x → changes_of other most bytes ≡ Ok x
unfolding changes_of
changes_too one other most bytes x allows e =
    let a = bind_ok (number_of 4 bytes) (λ count. ensure (nat_lt 0 count.0) (length bytes) >>= λ some. more_changes_of one most None count.0 count.1) x e in
    let b = bind_ok (ensure (nat_lt 0 a.0.0) (length bytes)) (λ some. more_changes_of one most None a.0.0 a.0.1) x a.2 in
    all_read other most bytes a.0.0 a.0.1 x a.1 (ensure_ok _ _ _ b.1) (more_too one other most None a.0.0 a.0.1 x allows b.2)

-- ---- entries

same_told : {S : Type 0} (rule : Rule S) (other : ℕ → ℕ → Bool) (state : S) (number : ℕ) (r : Result (List Change × List ℕ) ℕ)
    → comes_with (with_prefixes rule other) state number r ≡ comes_with rule state number r
same_told rule other state number (Ok x) = refl
same_told rule other state number (Err left) = refl

-- the room does not depend on the prefixes
same_room : {S : Type 0} (rule : Rule S) (other : ℕ → ℕ → Bool) (state : S) (number : ℕ) (bytes : List ℕ)
    → has_room (with_prefixes rule other) state number bytes ≡ has_room rule state number bytes
unfolding has_room
same_room rule other state number bytes = same_told rule other state number (any_changes_of bytes)

-- An entry is read by its parts.
pub entry_reads : {S : Type 0} (rule : Rule S) (most : ℕ) (state next : S) (bytes : List ℕ) (number : ℕ) (behind : List ℕ) (changes : List Change)
    (rest : List ℕ) → number_of 8 bytes ≡ Ok (number, behind) → rule.number_fits state number ≡ true → has_room rule state number behind ≡ true
    → changes_of rule.prefix_fits most behind ≡ Ok (changes, rest) → rule.after state (entry number changes) ≡ Some next
    → entry_of rule most state bytes ≡ Ok ((entry number changes, next), rest)
unfolding entry_of
entry_reads rule most state next bytes number behind changes rest first fits room read comes = rw (first, fits, room, read, comes) refl

entry_too : {S : Type 0} (rule : Rule S) (other : ℕ → ℕ → Bool) (most : ℕ) (state : S) (bytes : List ℕ) (x : (Entry × S) × List ℕ)
    → AllByRecursion (AllowsToo rule.prefix_fits other) x.0.0.changes → entry_of rule most state bytes ≡ Ok x
    → entry_of (with_prefixes rule other) most state bytes ≡ Ok x
unfolding entry_of
entry_too {S} rule other most state bytes x allows e =
    let a = bind_ok (number_of 8 bytes) (from_number rule most state bytes) x e in
    let number = a.0.0 in
    let b = bind_ok (ensure (rule.number_fits state number) (length bytes)) (λ next. from_next rule most state bytes a.0) x a.2 in
    let r = bind_ok (ensure (has_room rule state number a.0.1) (length bytes)) (λ room. from_room rule most state bytes a.0) x b.2 in
    let c = bind_ok (changes_of rule.prefix_fits most a.0.1) (from_changes rule state bytes number) x r.2 in
    let made = entry number c.0.0 in
    let d = bind_ok (given (rule.after state made) (length bytes)) (λ after. Ok ((made, after), c.0.1)) x c.2 in
    let is = ok_is ((made, d.0), c.0.1) x d.2 in
    let here : AllByRecursion (AllowsToo rule.prefix_fits other) c.0.0 =
    subst (λ (y : (Entry × S) × List ℕ). AllByRecursion (AllowsToo rule.prefix_fits other) y.0.0.changes) (sym is) allows in
    entry_reads (with_prefixes rule other) most state d.0 bytes number a.0.1 c.0.0 c.0.1 a.1 (ensure_ok _ _ _ b.1)
    (same_room rule other state number a.0.1 ∙ ensure_ok _ _ _ r.1) (changes_too rule.prefix_fits other most a.0.1 c.0 here c.1) (given_ok _ _ _ d.1)
    ∙ ap (λ (y : (Entry × S) × List ℕ). Ok y) is

-- Entries are read one after another.
pub entries_read : {S : Type 0} (rule : Rule S) (most : ℕ) (state middle last : S) (n : ℕ) (bytes : List ℕ) (e : Entry) (es : List Entry) (between rest : List ℕ)
    → entry_of rule most state bytes ≡ Ok ((e, middle), between) → entries_of rule most middle n between ≡ Ok ((es, last), rest)
    → entries_of rule most state (suc n) bytes ≡ Ok ((e ∷ es, last), rest)
unfolding entries_of
entries_read rule most state middle last n bytes e es between rest first others = rw (first, others) refl

entries_too : {S : Type 0} (rule : Rule S) (other : ℕ → ℕ → Bool) (most : ℕ) (state : S) (n : ℕ) (bytes : List ℕ) (x : (List Entry × S) × List ℕ)
    → AllowsAll rule.prefix_fits other x.0.0 → entries_of rule most state n bytes ≡ Ok x → entries_of (with_prefixes rule other) most state n bytes ≡ Ok x
unfolding entries_of
entries_too {S} rule other most state zero bytes x allows e = e
entries_too {S} rule other most state (suc n) bytes x allows e =
    let a = bind_ok (entry_of rule most state bytes) (other_entries_of rule most n) x e in
    let b = bind_ok (entries_of rule most a.0.0.1 n a.0.1) (λ others. Ok ((a.0.0.0 ∷ others.0.0, others.0.1), others.1)) x a.2 in
    let is = ok_is ((a.0.0.0 ∷ b.0.0.0, b.0.0.1), b.0.1) x b.2 in
    let here : AllowsAll rule.prefix_fits other (a.0.0.0 ∷ b.0.0.0) = subst (λ (y : (List Entry × S) × List ℕ). AllowsAll rule.prefix_fits other y.0.0) (sym is) allows in
    entries_read (with_prefixes rule other) most state a.0.0.1 b.0.0.1 n bytes a.0.0.0 b.0.0.0 a.0.1 b.0.1
    (entry_too rule other most state bytes a.0 here.0 a.1) (entries_too rule other most a.0.0.1 n a.0.1 b.0 here.1 b.1)
    ∙ ap (λ (y : (List Entry × S) × List ℕ). Ok y) is

-- ---- payloads

-- A payload is read by its parts.
pub payload_reads : {S : Type 0} (rule : Rule S) (most : ℕ) (state : S) (bytes : List ℕ) (n : ℕ) (behind : List ℕ) (read : List Entry × S) (rest : List ℕ)
    → number_of 4 bytes ≡ Ok (n, behind) → nat_lt 0 n ≡ true → entries_of rule most state n behind ≡ Ok (read, rest)
    → (length rest == 0) ≡ true → payload_of rule most state bytes ≡ Ok read
unfolding payload_of
payload_reads rule most state bytes n behind read rest first some others ended = rw (first, some, others, ended) refl

-- A payload that is read is read too where its stores' prefixes may have other lengths.
pub payload_too : {S : Type 0} (rule : Rule S) (other : ℕ → ℕ → Bool) (most : ℕ) (state : S) (bytes : List ℕ) (x : List Entry × S)
    → AllowsAll rule.prefix_fits other x.0 → payload_of rule most state bytes ≡ Ok x → payload_of (with_prefixes rule other) most state bytes ≡ Ok x
unfolding payload_of
payload_too {S} rule other most state bytes x allows e =
    let a = bind_ok (number_of 4 bytes) (λ count. ensure (nat_lt 0 count.0) (length bytes) >>= λ some. (entries_of rule most state count.0 count.1 >>= ended_of bytes)) x e in
    let b = bind_ok (ensure (nat_lt 0 a.0.0) (length bytes)) (λ some. entries_of rule most state a.0.0 a.0.1 >>= ended_of bytes) x a.2 in
    let c = bind_ok (entries_of rule most state a.0.0 a.0.1) (ended_of bytes) x b.2 in
    let d = bind_ok (ensure (length c.0.1 == 0) (4 + length bytes)) (λ ended. Ok c.0.0) x c.2 in
    let is = ok_is c.0.0 x d.2 in
    let here : AllowsAll rule.prefix_fits other c.0.0.0 = subst (λ (y : List Entry × S). AllowsAll rule.prefix_fits other y.0) (sym is) allows in
    payload_reads (with_prefixes rule other) most state bytes a.0.0 a.0.1 c.0.0 c.0.1 a.1 (ensure_ok _ _ _ b.1)
    (entries_too rule other most state a.0.0 a.0.1 c.0 here c.1) (ensure_ok _ _ _ d.1)
    ∙ ap (λ (y : List Entry × S). Ok y) is
