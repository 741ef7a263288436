-- Commits behind a log.
use Rattle.std.proofs.Common.{◌≡◌, ◌∙◌, ℕ, ◌+◌, ◌-◌, ◌<◌, ◌≤◌, true, List, [], ◌∷◌, length, Some, sym, ap, subst, arith}
use Rattle.std.specs.Prelude.{nat_le, ◌==◌}
use Rattle.std.proofs.lemmas.Bool.{and_from, eq-eqb, le-leb}
use Rattle.std.proofs.lemmas.List.Sums.{sum_by-cons}
use Rattle.hse_fields.specs.LogReading.{Follow}
use Rattle.hse_fields.specs.LogText.{Entry}
use Rattle.wal.specs.Charges.{charges}
use Rattle.wal.specs.Logged.{charge}
use Rattle.wal.specs.Numbered.{untaken, AreNumbered}
use Rattle.wal.specs.Numbering.{Numbers, free_from, taken_from, is_next, last_number, numbering}
use Rattle.wal.specs.Replaying.{starting}
use Rattle.wal.specs.declared.live.StorePrefix.{StorePrefix}
use Rattle.wal.specs.laws.Free.{free_least}
use Rattle.wal.specs.laws.Numbering.{all_charges, comes, known_after, run_follows}
use Rattle.wal.specs.laws.Taken.{follow_grows}
use Rattle.back.proofs.NumberLemmas.{Alike, behind_entries, later_last, IsLast}

-- what is known behind commits that come next
pub record Comes (live : List StorePrefix) (state : Numbers) (es : List Entry) : Type 0 where
  pub last : Numbers
  pub follow : Follow (numbering live) state es last
  pub next : last.next ≡ free_from state.next state.taken + length es

-- Where no taken number is behind the next one, entries with the numbers from there on may follow.
pub may_come : (live : List StorePrefix) (state : Numbers) (es : List Entry) → taken_from state.next state.taken ≡ [] → 1 ≤ length es
    → AreNumbered (free_from state.next state.taken) es → free_from state.next state.taken + length es ≤ last_number + 1
    → charges es ≤ state.room → Comes live state es
may_come live state [] none some numbered small fits = absurd (omega (arith, some))
may_come live state (e ∷ es) none some numbered small fits =
    let free : ℕ = free_from state.next state.taken in
    let sum : charges (e ∷ es) ≡ charge e + charges es = sum_by-cons charge e es in
    let number : e.number ≡ free_from state.next state.taken = numbered.0 in
    let room : ℕ = state.room - charge e in
    let is : known_after state e ≡ untaken (e.number + 1) (state.room - charge e) =
    λ i. record { next = e.number + 1; taken = none i; room = state.room - charge e } in
    let first : is_next state e.number ≡ true =
    and_from (e.number == free_from state.next state.taken) (nat_le e.number last_number) (eq-eqb e.number (free_from state.next state.taken) number)
    (le-leb e.number last_number (omega (arith, number, small))) in
    let rest = run_follows live (e.number + 1) (state.room - charge e) es
    (subst (λ (n : ℕ). AreNumbered (n + 1) es) (sym number) numbered.1) (omega (arith, number, small)) (omega (arith, sum, fits)) in
    record {
      last = untaken (e.number + 1 + length es) (state.room - charge e - charges es);
      follow = (
        first,
        untaken (e.number + 1) (state.room - charge e),
        comes state e (omega (arith, sum, fits)) ∙ ap (λ (s : Numbers). Some s) is,
        rest,
      );
      next = omega (arith, number);
    }

-- what a log is, read from these numbers on, whose taken ones leave no gap behind it
pub record Behind (live : List StorePrefix) (next : ℕ) (taken : List ℕ) (size : ℕ) (entries : List Entry) (last : Numbers) : Type 0 where
  pub follow : Follow (numbering live) (starting next taken size) entries last
  pub none : taken_from last.next taken ≡ []

module _ (live : List StorePrefix) (next : ℕ) (taken : List ℕ) (size : ℕ) (entries : List Entry) (last : Numbers)
    (behind : Behind live next taken size entries last) where
  alike : Alike last.next last.taken taken
  alike = behind_entries live (starting next taken size) last entries behind.follow last.next (omega arith)

  -- so the number that comes next is this one
  pub next_free : free_from last.next last.taken ≡ free_from last.next taken
  next_free = alike.free

  -- it is at least the first one
  pub next_least : next ≤ free_from last.next taken
  next_least =
      let grows : next ≤ last.next = follow_grows live (starting next taken size) last entries behind.follow in
      let least : last.next ≤ free_from last.next taken = free_least last.next taken in
      omega (arith, grows, least)

  pub room_left : charges entries + last.room ≡ size - 64
  room_left = all_charges live (starting next taken size) last entries behind.follow

  -- more entries, from the next number on
  pub more_come : (es : List Entry) → 1 ≤ length es → AreNumbered (free_from last.next taken) es
      → free_from last.next taken + length es ≤ last_number + 1 → charges entries + charges es ≤ size - 64 → Comes live last es
  more_come es some numbered small fits =
      let sum : charges entries + last.room ≡ size - 64 = room_left in
      may_come live last es (alike.taken ∙ behind.none) some
      (subst (λ (n : ℕ). AreNumbered n es) (sym next_free) numbered)
      (subst (λ (n : ℕ). n + length es ≤ last_number + 1) (sym next_free) small) (omega (arith, sum, fits))

  -- and behind them no taken number is left
  pub last_behind : (k : ℕ) → free_from last.next taken < k → IsLast k taken
  last_behind k lt = later_last last.next k taken behind.none lt
