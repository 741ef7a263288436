-- Between two taken numbers, and behind them, stand no more numbers than the log has entries.
use Rattle.std.proofs.Common.{◌≡◌, ◌≢◌, ◌⊎◌, ℕ, ◌+◌, ◌-◌, ◌*◌, ◌<◌, ◌≤◌, Bool, List, [], ◌∷◌, ◌++◌, length, refl, sym, ◌∙◌, ap, subst, arith, inl, inr}
use Rattle.std.proofs.lemmas.Bool.{cases_lt}
use Rattle.hse_fields.specs.LogReading.{Follow}
use Rattle.hse_fields.specs.LogText.{Entry}
use Rattle.hse_rows.specs.machine.TakenRuns.{NumberRun, counted, numbers_of}
use Rattle.manifest.specs.Metadata.{last_by, last_of_run}
use Rattle.wal.specs.Numbering.{Numbers, free_from, taken_from, numbering}
use Rattle.wal.specs.declared.live.StorePrefix.{StorePrefix}
use Rattle.wal.specs.laws.Free.{IsIn, free_fills, free_least, part_of_taken, place, through}
use Rattle.wal.specs.laws.Numbering.{came, number_is}
use Rattle.back.proofs.RunLemmas.{AreNear, AreStanding, counted_in, in_both, in_counted, in_first, in_second, is_full, numbers_above}

-- none of these numbers, from one on to below another, is taken
abbrev pub NoneIn : ℕ → ℕ → List ℕ → Type 0
NoneIn low high taken = (n : ℕ) → low ≤ n → n < high → IsIn n taken → ⊥

-- so entries have them
pub entries_fill : (live : List StorePrefix) (state last : Numbers) (es : List Entry) → Follow (numbering live) state es last
    → (low high : ℕ) → state.next ≤ low → high ≤ free_from last.next last.taken → NoneIn low high state.taken → high ≤ low + length es
entries_fill live state last [] follow low high from to none = elim (cases_lt low high) [
  | inl lt ↦
      let high_is : high ≤ free_from state.next state.taken = subst (λ (s : Numbers). high ≤ free_from s.next s.taken) (sym follow) to in
      absurd (none low (omega arith) lt (free_fills state.next state.taken low from (through low high (free_from state.next state.taken) lt high_is)))
  | inr le ↦ omega (arith, le)
]
entries_fill live state last (e ∷ es) follow low high from to none = elim (cases_lt low high) [
  | inl lt ↦
      let is = (came state follow.1 e follow.2).is in
      let number : e.number ≡ free_from state.next state.taken = number_is state e.number follow.0 in
      let next : e.number + 1 ≡ follow.1.next = ap (λ (n : Numbers). n.next) is in
      let taken : taken_from state.next state.taken ≡ follow.1.taken = ap (λ (n : Numbers). n.taken) is in
      elim (cases_lt low (free_from state.next state.taken)) [
        | inl below ↦ absurd (none low (omega arith) lt (free_fills state.next state.taken low from below))
        | inr behind ↦
            let rest = entries_fill live follow.1 last es follow.3 (low + 1) high (omega (arith, next, number, behind)) to
            (λ n least most here. none n (omega (arith, least)) most
            (part_of_taken state.next state.taken n (subst (IsIn n) (sym taken) here))) in
            omega (arith, rest)
      ]
  | inr le ↦ omega (arith, le)
]

cons_is_some : (t : ℕ) (ts : List ℕ) → t ∷ ts ≡ [] → ⊥
cons_is_some t ts is = cc

-- where no taken number is behind the first free one, all are below it
pub all_below : (next : ℕ) (ts : List ℕ) (n : ℕ) → taken_from next ts ≡ [] → IsIn n ts → n < free_from next ts
all_below next [] n none here = absurd here
all_below next (t ∷ ts) n none here = elim (place next t) [
  | inl a ↦ absurd (cons_is_some t ts (sym (a.taken ts) ∙ none))
  | inr p ↦
      subst (λ (m : ℕ). n < m) (sym (p.free ts))
      (by p.from p.below here (λ more. all_below p.from ts n (sym (p.taken ts) ∙ none) more))
]
  where
    by : (from : ℕ) → t < from → IsIn n (t ∷ ts) → (IsIn n ts → n < free_from from ts) → n < free_from from ts
    by from below (inl is) rest = through n from (free_from from ts) (omega (arith, is, below)) (free_least from ts)
    by from below (inr more) rest = rest more

-- ---- gaps

-- numbers from one on to below another, none of which is taken, are no more than these
abbrev pub HasNoMore : ℕ → ℕ → List ℕ → ℕ → Type 0
HasNoMore least top taken most =
    (low high : ℕ) → least ≤ low → high ≤ top → NoneIn low high taken → high ≤ low + most

pub record HasFew (most top low : ℕ) (runs : List NumberRun) : Type 0 where
  pub near : AreNear most low runs
  pub behind : top ≤ last_by last_of_run low runs + 1 + most

module _ (most least top : ℕ) (taken : List ℕ) (no_more : HasNoMore least top taken most) where
  pub has_few : (low : ℕ) (full : Bool) (runs : List NumberRun) → AreStanding low full runs → least ≤ low + 1
      → ((n : ℕ) → low < n → IsIn n taken → IsIn n (numbers_of runs)) → ((n : ℕ) → IsIn n (numbers_of runs) → n < top)
      → HasFew most top low runs
  has_few low full [] are from others below = record {
    near = tt;
    behind = no_more (low + 1) top from (omega arith) (λ n above under here. others n (omega (arith, above)) here);
  }
  has_few low full (run ∷ runs) are from others below =
      let above : low < run.first = are.0.above in
      let some : 0 < run.count = are.0.some in
      let first : run.first < top =
      below run.first (in_first run.first (counted run.first run.count) (numbers_of runs) (counted_in run.first run.first run.count (omega arith) (omega (arith, some)))) in
      let gap : run.first ≤ low + 1 + most =
      no_more (low + 1) run.first from (omega (arith, first)) (λ n after under here.
      first_least run runs are.0.some are.1 n under (others n (omega (arith, after)) here)) in
      let rest = has_few (last_of_run run) (is_full run) runs are.1 (omega (arith, from, above, some))
      (λ n after here. behind_run run runs n after some (others n (omega (arith, after, above, some)) here))
      (λ n here. below n (in_second n (counted run.first run.count) (numbers_of runs) here)) in
      record { near = (omega (arith, gap), rest.near); behind = rest.behind }
    where
      first_least : (run : NumberRun) (runs : List NumberRun) → 0 < run.count → AreStanding (last_of_run run) (is_full run) runs → (n : ℕ) → n < run.first
          → IsIn n (numbers_of (run ∷ runs)) → ⊥
      first_least run runs some are n under here = elim (in_both n (counted run.first run.count) (numbers_of runs) here) [
        | inl head ↦ let c = in_counted n run.first run.count head in omega (arith, under, c.0)
        | inr tail ↦ let c = numbers_above n (last_of_run run) (is_full run) runs are tail in omega (arith, under, some, c)
      ]

      behind_run : (run : NumberRun) (runs : List NumberRun) (n : ℕ) → last_of_run run < n → 0 < run.count → IsIn n (numbers_of (run ∷ runs))
          → IsIn n (numbers_of runs)
      behind_run run runs n after some here = elim (in_both n (counted run.first run.count) (numbers_of runs) here) [
        | inl head ↦ let c = in_counted n run.first run.count head in absurd (omega (arith, after, some, c.1))
        | inr tail ↦ tail
      ]
