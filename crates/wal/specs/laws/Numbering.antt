-- What the numbering of entries says of those that follow one another by it.
use Rattle.std.specs.Prelude.{◌≡◌, ℕ, ◌+◌, ◌-◌, ◌*◌, ◌≤◌, Bool, true, false, List, [], ◌∷◌, length, Some, None, nat_lt, nat_le, ◌==◌}
use Rattle.std.proofs.Common.{refl, sym, ap, subst, ◌∙◌, arith, cond, length-append}
use Rattle.std.proofs.lemmas.Bool.{ltb-false, leb-true, le-leb, le-ltb, eqb-true, eq-eqb, and_parts, and_from}
use Rattle.std.proofs.lemmas.List.Sums.{sum_by-cons}
use Rattle.byteorder.specs.Endian.{big_bytes}
use Rattle.byteorder.specs.Numbers.{length-bytes_high_first}
use Rattle.hse_fields.specs.LogText.{Entry, changes_text}
use Rattle.hse_fields.specs.LogReading.{Follow}
use Rattle.wal.specs.Charges.{charges}
use Rattle.wal.specs.Logged.{charge}
use Rattle.wal.specs.Numbering.{Numbers, free_from, taken_from, last_number, is_next, after, numbering}
use Rattle.wal.specs.Numbered.{untaken, AreNumbered, AreSmall, IsRun}
use Rattle.wal.specs.declared.live.StorePrefix.{StorePrefix}

chosen_some : {A : Type 0} (b : Bool) (x y : A) → cond b None (Some x) ≡ Some y → (b ≡ false) × (x ≡ y)
chosen_some true x y e = absurd cc
chosen_some false x y e = (refl, cc)

-- what is known after an entry
abbrev pub known_after : Numbers → Entry → Numbers
known_after state e = record { next = e.number + 1; taken = taken_from state.next state.taken; room = state.room - charge e }

pub record Came (state next : Numbers) (e : Entry) : Type 0 where
  pub fits : charge e ≤ state.room
  pub is : known_after state e ≡ next

pub came : (state next : Numbers) (e : Entry) → after state e ≡ Some next → Came state next e
came state next e h =
    let c = chosen_some (nat_lt state.room (charge e)) (known_after state e) next h in
    record { fits = ltb-false _ _ c.0; is = c.1 }

pub comes : (state : Numbers) (e : Entry) → charge e ≤ state.room → after state e ≡ Some (known_after state e)
comes state e fits =
    let test : nat_lt state.room (charge e) ≡ false = le-ltb _ _ fits in
    rw test refl

pub number_is : (state : Numbers) (number : ℕ) → is_next state number ≡ true → number ≡ free_from state.next state.taken
number_is state number h = eqb-true number (free_from state.next state.taken) (and_parts (number == free_from state.next state.taken) (nat_le number last_number) h).0

number_small : (state : Numbers) (number : ℕ) → is_next state number ≡ true → number ≤ last_number
number_small state number h = leb-true number last_number (and_parts (number == free_from state.next state.taken) (nat_le number last_number) h).1

-- ---- with any taken numbers

one_charge : (state next : Numbers) (e : Entry) → after state e ≡ Some next → charge e + next.room ≡ state.room
one_charge state next e h =
    let c = came state next e h in
    let room : state.room - charge e ≡ next.room = ap (λ (n : Numbers). n.room) c.is in
    let fits : charge e ≤ state.room = c.fits in
    omega (arith, room, fits)

-- what entries take of the room
pub all_charges : (live : List StorePrefix) (state last : Numbers) (es : List Entry) → Follow (numbering live) state es last
    → charges es + last.room ≡ state.room
all_charges live state last [] follow = let same : state.room ≡ last.room = ap (λ (n : Numbers). n.room) follow in omega (arith, same)
all_charges live state last (e ∷ es) follow =
    let one = one_charge state follow.1 e follow.2 in
    let rest = all_charges live follow.1 last es follow.3 in
    omega (arith, one, rest, sum_by-cons charge e es)

pub all_small : (live : List StorePrefix) (state last : Numbers) (es : List Entry) → Follow (numbering live) state es last → AreSmall es
all_small live state last [] follow = tt
all_small live state last (e ∷ es) follow = (number_small state e.number follow.0, all_small live follow.1 last es follow.3)

pub next_small : (live : List StorePrefix) (state last : Numbers) (es : List Entry) → state.next ≤ last_number + 1
    → Follow (numbering live) state es last → last.next ≤ last_number + 1
next_small live state last [] le follow = let same : state.next ≡ last.next = ap (λ (n : Numbers). n.next) follow in omega (arith, same)
next_small live state last (e ∷ es) le follow =
    let c = came state follow.1 e follow.2 in
    let here : e.number + 1 ≡ follow.1.next = ap (λ (n : Numbers). n.next) c.is in
    let small = number_small state e.number follow.0 in
    next_small live follow.1 last es (omega (arith, here, small)) follow.3

-- an entry takes at least 44 of the room
pub least_charge : (e : Entry) → 44 ≤ charge e
least_charge e =
    let text = length-append (big_bytes 8 e.number) (changes_text e.changes) in
    let number = length-bytes_high_first 8 e.number in
    let count = length-bytes_high_first 4 (length e.changes) in
    omega (arith, text, number, count)

pub counted : (es : List Entry) → 44 * length es ≤ charges es
counted [] = omega arith
counted (e ∷ es) =
    let rest = counted es in
    let one = least_charge e in
    omega (arith, rest, one, sum_by-cons charge e es)

-- ---- with none

-- Entries that follow one another where no number is taken have consecutive numbers.
pub follow_run : (live : List StorePrefix) (next room : ℕ) (es : List Entry) (last : Numbers)
    → Follow (numbering live) (untaken next room) es last → IsRun next room es last
follow_run live next room [] last follow =
    let n : next ≡ next + 0 = omega arith in
    let r : room ≡ room - 0 = omega arith in
    record { numbered = tt; small = tt; fits = omega arith; last_is = sym follow ∙ (λ i. untaken (n i) (r i)) }
follow_run live next room (e ∷ es) last follow =
    let c = came (untaken next room) follow.1 e follow.2 in
    let fits : charge e ≤ room = c.fits in
    let number : e.number ≡ next = number_is (untaken next room) e.number follow.0 in
    let same : follow.1 ≡ untaken (next + 1) (room - charge e) =
    sym c.is ∙ ap (λ (n : ℕ). untaken (n + 1) (room - charge e)) number in
    let rest = follow_run live (next + 1) (room - charge e) es last (subst (λ (s : Numbers). Follow (numbering live) s es last) same follow.3) in
    let sum : charges (e ∷ es) ≡ charge e + charges es = sum_by-cons charge e es in
    let rest_fits : charges es ≤ room - charge e = rest.fits in
    let n : (next + 1) + length es ≡ next + length (e ∷ es) = omega arith in
    let r : (room - charge e) - charges es ≡ room - charges (e ∷ es) = omega (arith, sum) in
    record {
      numbered = (number, rest.numbered);
      small = (number_small (untaken next room) e.number follow.0, rest.small);
      fits = omega (arith, sum, rest_fits, fits);
      last_is = rest.last_is ∙ (λ i. untaken (n i) (r i));
    }

-- And those that have such numbers, for which the room is enough, may follow one another.
pub run_follows : (live : List StorePrefix) (next room : ℕ) (es : List Entry) → AreNumbered next es → next + length es ≤ last_number + 1
    → charges es ≤ room → Follow (numbering live) (untaken next room) es (untaken (next + length es) (room - charges es))
run_follows live next room [] numbered small fits =
    let n : next ≡ next + 0 = omega arith in
    let r : room ≡ room - 0 = omega arith in
    λ i. untaken (n i) (r i)
run_follows live next room (e ∷ es) numbered small fits =
    let sum : charges (e ∷ es) ≡ charge e + charges es = sum_by-cons charge e es in
    let number : e.number ≡ next = numbered.0 in
    let first : is_next (untaken next room) e.number ≡ true =
    and_from (e.number == next) (nat_le e.number last_number) (eq-eqb e.number next number) (le-leb e.number last_number (omega (arith, number, small))) in
    let same : known_after (untaken next room) e ≡ untaken (next + 1) (room - charge e) =
    ap (λ (n : ℕ). untaken (n + 1) (room - charge e)) number in
    let next_is : after (untaken next room) e ≡ Some (untaken (next + 1) (room - charge e)) =
    comes (untaken next room) e (omega (arith, sum, fits)) ∙ ap (λ (s : Numbers). Some s) same in
    let rest = run_follows live (next + 1) (room - charge e) es numbered.1 (omega (arith, small)) (omega (arith, sum, fits)) in
    let n : (next + 1) + length es ≡ next + length (e ∷ es) = omega arith in
    let r : (room - charge e) - charges es ≡ room - charges (e ∷ es) = omega (arith, sum) in (
      first,
      untaken (next + 1) (room - charge e),
      next_is,
      subst (λ (s : Numbers). Follow (numbering live) (untaken (next + 1) (room - charge e)) es s) (λ i. untaken (n i) (r i)) rest,
    )
