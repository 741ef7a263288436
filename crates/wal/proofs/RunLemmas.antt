-- Taken numbers by their runs.
use Rattle.std.proofs.Common.{◌≡◌, ℕ, zero, suc, ◌+◌, ◌-◌, ◌<◌, ◌≤◌, true, false, List, [], ◌∷◌, ◌++◌, length, take, drop, get_or, refl, sym, ap, subst, arith, inl, inr}
use Rattle.std.specs.Prelude.{nat_lt, ◌==◌}
use Rattle.std.proofs.lemmas.Bool.{cases_lt, cases_eq, lt-ltb, le-ltb, eq-eqb, ne_eqb}
use Rattle.std.proofs.lemmas.List.{take_all}
use Rattle.hse_rows.specs.declared.taken_run.TakenRun.{TakenRun}
use Rattle.hse_rows.specs.machine.TakenRuns.{counted, numbers_of, runs_as}
use Rattle.wal.specs.Numbering.{free_from, taken_from}
use Rattle.wal.specs.Past.{past}

-- from both the same number comes first, and the same numbers are taken behind it
pub record Alike (next least : ℕ) (taken rest : List ℕ) : Type 0 where
  pub number : free_from next taken ≡ free_from least rest
  pub behind : taken_from next taken ≡ taken_from least rest

-- a number that is below the taken ones
pub stands_before : (next first count : ℕ) (rest : List ℕ) → next < first → 1 ≤ count
    → (free_from next (counted first count ++ rest) ≡ next) × (taken_from next (counted first count ++ rest) ≡ counted first count ++ rest)
stands_before next first zero rest less some = absurd (omega (arith, some))
stands_before next first (suc count) rest less some =
    let below : nat_lt next first ≡ true = lt-ltb _ _ less in
    (rw below refl, rw below refl)

no_less : (next least first : ℕ) (taken rest : List ℕ) → first ≤ next → (first ≡ next → ⊥) → Alike next least taken rest → Alike next least (first ∷ taken) rest
no_less next least first taken rest le apart alike =
    let above : nat_lt next first ≡ false = le-ltb _ _ le in
    let other : (first == next) ≡ false = ne_eqb first next apart in
    record { number = rw (above, other) alike.number; behind = rw (above, other) alike.behind }

same_first : (next least first : ℕ) (taken rest : List ℕ) → first ≡ next → Alike (next + 1) least taken rest → Alike next least (first ∷ taken) rest
same_first next least first taken rest is alike =
    let above : nat_lt next first ≡ false = le-ltb _ _ (omega (arith, is)) in
    let same : (first == next) ≡ true = eq-eqb first next is in
    record { number = rw (above, same) alike.number; behind = rw (above, same) alike.behind }

below : (first next : ℕ) → first ≤ next → (first ≡ next → ⊥) → first < next
below first next le apart = elim (cases_lt first next) [ inl less ↦ less | inr more ↦ absurd (apart (omega (arith, le, more))) ]

-- a run that begins up to the number, of which the greater end is the least number behind it
goes_past : (next least first count : ℕ) (rest : List ℕ) → first ≤ next → next ≤ least → first + count ≤ least
    → (next < least → first + count ≡ least) → Alike next least (counted first count ++ rest) rest
goes_past next least first zero rest le low high is = elim (cases_lt next least) [
  | inl less ↦ absurd (omega (arith, is less, less, le))
  | inr more ↦
      let same : next ≡ least = omega (arith, low, more) in
      record { number = ap (λ (n : ℕ). free_from n rest) same; behind = ap (λ (n : ℕ). taken_from n rest) same }
]
goes_past next least first (suc count) rest le low high is = elim (cases_eq first next) [
  | inl same ↦
      same_first next least first (counted (first + 1) count ++ rest) rest same
      (goes_past (next + 1) least (first + 1) count rest (omega (arith, le)) (omega (arith, same, high)) (omega (arith, high))
      (λ less. let end = is (omega (arith, less)) in omega (arith, end)))
  | inr apart ↦
      let less : first < next = below first next le apart in
      no_less next least first (counted (first + 1) count ++ rest) rest le apart
      (goes_past next least (first + 1) count rest (omega (arith, less)) low (omega (arith, high)) (λ smaller. let end = is smaller in omega (arith, end)))
]

-- the numbers behind a run that does not begin behind the number
pub run_past : (next first count : ℕ) (rest : List ℕ) → first ≤ next → Alike next (past next first count) (counted first count ++ rest) rest
run_past next first count rest le = elim (cases_lt next (first + count)) [
  | inl less ↦
      let end : past next first count ≡ first + count = let test : nat_lt next (first + count) ≡ true = lt-ltb _ _ less in rw test refl in
      rw end (goes_past next (first + count) first count rest le (omega (arith, less)) (omega arith) (λ l. refl))
  | inr more ↦
      let end : past next first count ≡ next = let test : nat_lt next (first + count) ≡ false = le-ltb _ _ more in rw test refl in
      rw end (goes_past next next first count rest le (omega arith) more (λ l. absurd (omega (arith, l))))
]

-- the first of a list, and the others
parts : {A : Type 0} (xs : List A) (x : A) → 1 ≤ length xs → x ≡ get_or xs 0 x → x ∷ take (length xs - 1) (drop 1 xs) ≡ xs
parts {A = A} [] x le is = absurd (omega (arith, le))
parts {A = A} (y ∷ ys) x le is =
    let k : suc (length ys) - 1 ≡ length ys = omega arith in
    let all : take (suc (length ys) - 1) ys ≡ ys = rw k (take_all (length ys) ys (omega arith)) in
    λ i. is i ∷ all i

module _ (next : ℕ) (runs : List TakenRun) (run : TakenRun) (some : 1 ≤ length runs) (is : run ≡ get_or runs 0 run) where
  abbrev more : List TakenRun
  more = take (length runs - 1) (drop 1 runs)

  -- the number stands before them all
  pub before_runs : next < run.first
      → (free_from next (numbers_of (runs_as runs)) ≡ next) × (taken_from next (numbers_of (runs_as runs)) ≡ numbers_of (runs_as runs))
  before_runs less =
      subst (λ (rs : List TakenRun). (free_from next (numbers_of (runs_as rs)) ≡ next) × (taken_from next (numbers_of (runs_as rs)) ≡ numbers_of (runs_as rs)))
      (parts runs run some is) (stands_before next run.first run.count (numbers_of (runs_as more)) less run.some)

  -- the first of them is passed
  pub behind_run : (after : ℕ) → after ≡ past next run.first run.count → run.first ≤ next
      → Alike next after (numbers_of (runs_as runs)) (numbers_of (runs_as more))
  behind_run after past_is le =
      subst (λ (n : ℕ). Alike next n (numbers_of (runs_as runs)) (numbers_of (runs_as more))) (sym past_is)
      (subst (λ (rs : List TakenRun). Alike next (past next run.first run.count) (numbers_of (runs_as rs)) (numbers_of (runs_as more)))
      (parts runs run some is) (run_past next run.first run.count (numbers_of (runs_as more)) le))
