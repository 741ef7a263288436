-- Runs that stand are as few as say their numbers.
use Rattle.std.proofs.Common.{◌≡◌, ◌∙◌, ℕ, zero, suc, ◌+◌, ◌-◌, ◌<◌, ◌≤◌, ◌==◌, ◌||◌, Bool, true, false, List, [], ◌∷◌, ◌++◌, refl, sym, ap, arith}
use Rattle.std.specs.Prelude.{nat_lt, nat_le, ◌&&◌, if◌then◌else◌}
use Rattle.std.proofs.lemmas.Bool.{and_from, eq-eqb, le-ltb, leb-true, lt-ltb, ltb-true, ne_eqb}
use Rattle.hse_rows.specs.machine.TakenRuns.{NumberRun, counted, longest_run, numbers_of, runs_from, runs_of}
use Rattle.manifest.specs.Metadata.{last_of_run}
use Rattle.back.specs.Bases.{AreCounted}
use Rattle.back.proofs.RunLemmas.{AreStanding, is_full, or_true}

joined_if : (joins : Bool) (one other : List NumberRun) → joins ≡ true → (if joins then one else other) ≡ one
joined_if joins one other is = rw is refl

apart_if : (joins : Bool) (one other : List NumberRun) → joins ≡ false → (if joins then one else other) ≡ other
apart_if joins one other is = rw is refl

and_left : (a b : Bool) → a ≡ false → (a && b) ≡ false
and_left a b is = rw is refl

and_right : (a b : Bool) → b ≡ false → (a && b) ≡ false
and_right true b is = is
and_right false b is = refl

-- numbers that follow join the open run
fill : (first count more : ℕ) (rest : List ℕ) → count + more ≤ longest_run
    → runs_from first count (counted (first + count) more ++ rest) ≡ runs_from first (count + more) rest
fill first count zero rest room = ap (λ (n : ℕ). runs_from first n rest) (let is : count ≡ count + 0 = omega arith in is)
fill first count (suc more) rest room =
    joined_if ((first + count == first + count) && nat_lt count longest_run) (runs_from first (count + 1) (counted (first + count + 1) more ++ rest))
    (record { first = first; count = count } ∷ runs_from (first + count) 1 (counted (first + count + 1) more ++ rest))
    (and_from (first + count == first + count) (nat_lt count longest_run) (eq-eqb _ _ refl) (lt-ltb _ _ (omega (arith, room))))
    ∙ ap (λ (n : ℕ). runs_from first (count + 1) (counted n more ++ rest)) (let is : first + count + 1 ≡ first + (count + 1) = omega arith in is)
    ∙ fill first (count + 1) more rest (omega (arith, room))
    ∙ ap (λ (n : ℕ). runs_from first n rest) (let is : count + 1 + more ≡ count + suc more = omega arith in is)

-- the first number of the run behind does not
not_joined : (first count next : ℕ) → 0 < count → first + count ≤ next
    → (nat_lt 0 (next - (first + count - 1) - 1) || nat_le longest_run count) ≡ true
    → ((next == first + count) && nat_lt count longest_run) ≡ false
not_joined first count next some above apart =
    or_true (nat_lt 0 (next - (first + count - 1) - 1)) (nat_le longest_run count) (((next == first + count) && nat_lt count longest_run) ≡ false) apart
    (λ gap. and_left (next == first + count) (nat_lt count longest_run)
    (ne_eqb next (first + count) (λ is. let lt : 0 < next - (first + count - 1) - 1 = ltb-true _ _ gap in omega (arith, lt, is, some))))
    (λ full. and_right (next == first + count) (nat_lt count longest_run) (le-ltb count longest_run (leb-true _ _ full)))

few_behind : (first count : ℕ) (runs : List NumberRun) → 0 < count → count ≤ longest_run
    → AreStanding (first + count - 1) (nat_le longest_run count) runs → AreCounted runs
    → runs_from first count (numbers_of runs) ≡ record { first = first; count = count } ∷ runs
few_behind first count [] some room are few = refl
few_behind first count (run ∷ runs) some room are few =
    by run.count refl (few_behind run.first run.count runs are.0.some (omega (arith, few.0)) are.1 few.1)
  where
    by : (n : ℕ) → run.count ≡ n → runs_from run.first run.count (numbers_of runs) ≡ run ∷ runs
        → runs_from first count (counted run.first n ++ numbers_of runs) ≡ record { first = first; count = count } ∷ run ∷ runs
    by zero is rest = absurd (omega (arith, is, are.0.some))
    by (suc n) is rest =
        apart_if ((run.first == first + count) && nat_lt count longest_run) (runs_from first (count + 1) (counted (run.first + 1) n ++ numbers_of runs))
        (record { first = first; count = count } ∷ runs_from run.first 1 (counted (run.first + 1) n ++ numbers_of runs))
        (not_joined first count run.first some (omega (arith, some, are.0.above)) are.0.apart)
        ∙ ap (λ (l : List NumberRun). record { first = first; count = count } ∷ l)
        (fill run.first 1 n (numbers_of runs) (omega (arith, few.0, is))
        ∙ ap (λ (c : ℕ). runs_from run.first c (numbers_of runs)) (let e : 1 + n ≡ run.count = omega (arith, is) in e)
        ∙ rest)

pub few_as_numbers : (low : ℕ) (full : Bool) (runs : List NumberRun) → AreStanding low full runs → AreCounted runs → runs ≡ runs_of (numbers_of runs)
few_as_numbers low full [] are few = refl
few_as_numbers low full (run ∷ runs) are few = by run.count refl
  where
    by : (n : ℕ) → run.count ≡ n → run ∷ runs ≡ runs_of (counted run.first n ++ numbers_of runs)
    by zero is = absurd (omega (arith, is, are.0.some))
    by (suc n) is =
        sym (fill run.first 1 n (numbers_of runs) (omega (arith, few.0, is))
        ∙ ap (λ (c : ℕ). runs_from run.first c (numbers_of runs)) (let e : 1 + n ≡ run.count = omega (arith, is) in e)
        ∙ few_behind run.first run.count runs are.0.some (omega (arith, few.0)) are.1 few.1)
