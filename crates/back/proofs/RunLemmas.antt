-- Runs of taken numbers that may stand in a base but for the gaps between them.
use Rattle.std.proofs.Common.{◌≡◌, ◌⊎◌, ℕ, zero, suc, ◌+◌, ◌-◌, ◌^◌, ◌<◌, ◌≤◌, ◌==◌, ◌||◌, ◌*◌, Bool, true, false, List, [], ◌∷◌, ◌++◌, length, refl, subst, sym, arith, inl, inr}
use Rattle.std.specs.Prelude.{nat_lt, nat_le, ◌&&◌}
use Rattle.std.specs.List.{list_any}
use Rattle.std.proofs.lemmas.Bool.{and_parts, and_from, cases_eq, eq-eqb, eqb-true, le-leb, leb-true, lt-ltb, ltb-true, ltb-false}
use Rattle.hse_rows.specs.machine.TakenRuns.{NumberRun, counted, longest_run, numbers_of}
use Rattle.manifest.specs.MayCome.{AreRuns, MayFollow}
use Rattle.manifest.specs.Metadata.{greatest_number, is_in_run, is_joined, is_taken, joined, last_by, last_of_run, with_taken}
use Rattle.wal.specs.laws.Free.{IsIn}
use Rattle.back.specs.Bases.{AreCounted}

-- ---- tests of one or another

pub or_left : (a b : Bool) → a ≡ true → (a || b) ≡ true
or_left a b is = rw is refl

pub or_right : (a b : Bool) → b ≡ true → (a || b) ≡ true
or_right true b is = refl
or_right false b is = is

pub or_true : (a b : Bool) (P : Type 0) → (a || b) ≡ true → (a ≡ true → P) → (b ≡ true → P) → P
or_true true b P is one other = one refl
or_true false b P is one other = other is

pub or_more : (a b c : Bool) → (a || b) ≡ true → (b ≡ true → c ≡ true) → (a || c) ≡ true
or_more true b c is more = refl
or_more false b c is more = more is

-- ---- runs behind a number

-- A run that may stand behind this number, however many numbers are between; none only where the one before it is full.
pub record MayStand (low : ℕ) (full : Bool) (run : NumberRun) : Type 0 where
  pub above : low < run.first
  pub apart : (nat_lt 0 (run.first - low - 1) || full) ≡ true
  pub some : 0 < run.count
  pub small : last_of_run run ≤ greatest_number

abbrev pub is_full : NumberRun → Bool
is_full run = nat_le longest_run run.count

abbrev pub AreStanding : ℕ → Bool → List NumberRun → Type 0
AreStanding low full [] = Unit {0}
AreStanding low full (run ∷ runs) = MayStand low full run × AreStanding (last_of_run run) (is_full run) runs

abbrev pub full_by : Bool → List NumberRun → Bool
full_by full [] = full
full_by full (run ∷ runs) = full_by (is_full run) runs

pub standing_push : (low : ℕ) (full : Bool) (runs : List NumberRun) (run : NumberRun) → AreStanding low full runs
    → MayStand (last_by last_of_run low runs) (full_by full runs) run → AreStanding low full (runs ++ run ∷ [])
standing_push low full [] run are is = (is, tt)
standing_push low full (first ∷ runs) run are is = (are.0, standing_push (last_of_run first) (is_full first) runs run are.1 is)

pub full_push : (full : Bool) (runs : List NumberRun) (run : NumberRun) → full_by full (runs ++ run ∷ []) ≡ is_full run
full_push full [] run = refl
full_push full (first ∷ runs) run = full_push (is_full first) runs run

pub last_push : {A : Type 0} (f : A → ℕ) (low : ℕ) (xs : List A) (x : A) → last_by f low (xs ++ x ∷ []) ≡ f x
last_push {A = A} f low [] x = refl
last_push {A = A} f low (y ∷ xs) x = last_push f (f y) xs x

-- ---- one number more

-- behind the last run, whether it has room or not
apart_by : (run : NumberRun) (number : ℕ) → is_joined run number ≡ false → last_of_run run < number → 0 < run.count
    → (nat_lt 0 (number - last_of_run run - 1) || is_full run) ≡ true
apart_by run number alone above some =
    elim (cases_eq number (run.first + run.count)) [
      | inl is ↦ or_right (nat_lt 0 (number - last_of_run run - 1)) (is_full run) (le-leb longest_run run.count (ltb-false run.count longest_run (no_room run number is alone)))
      | inr apart ↦ or_left (nat_lt 0 (number - last_of_run run - 1)) (is_full run) (lt-ltb 0 (number - last_of_run run - 1) (omega (arith, above, some, apart)))
    ]
  where
    no_room : (run : NumberRun) (number : ℕ) → number ≡ run.first + run.count → is_joined run number ≡ false → nat_lt run.count longest_run ≡ false
    no_room run number is alone =
        let same : (number == run.first + run.count) ≡ true = eq-eqb number (run.first + run.count) is in
        rw same at alone

joined_stand : (low : ℕ) (full : Bool) (run : NumberRun) (number : ℕ) → MayStand low full run → last_of_run run < number
    → number ≤ greatest_number → AreStanding low full (joined run number)
joined_stand low full run number is above small = by (is_joined run number) refl
  where
    by : (b : Bool) → is_joined run number ≡ b → AreStanding low full (joined run number)
    by true joins =
        let next : number ≡ run.first + run.count = eqb-true _ _ (and_parts (number == run.first + run.count) (nat_lt run.count longest_run) joins).0 in
        rw joins (record { above = is.above; apart = is.apart; some = omega arith; small = omega (arith, next, small) }, tt)
    by false alone =
        rw alone (
          is,
          (record { above = above; apart = apart_by run number alone above is.some; some = omega arith; small = omega (arith, small) }, tt),
        )

more_stand : (low : ℕ) (full : Bool) (run : NumberRun) (runs : List NumberRun) (number : ℕ) → AreStanding low full (run ∷ runs)
    → last_by last_of_run low (run ∷ runs) < number → number ≤ greatest_number → AreStanding low full (with_taken (run ∷ runs) number)
more_stand low full run [] number are above small = joined_stand low full run number are.0 above small
more_stand low full run (next ∷ runs) number are above small =
    (are.0, more_stand (last_of_run run) (is_full run) next runs number are.1 above small)

pub taken_stand : (horizon : ℕ) (runs : List NumberRun) (number : ℕ) → AreStanding horizon true runs → last_by last_of_run horizon runs < number
    → number ≤ greatest_number → AreStanding horizon true (with_taken runs number)
taken_stand horizon [] number are above small =
    (record { above = above; apart = or_right (nat_lt 0 (number - horizon - 1)) true refl; some = omega arith; small = omega (arith, small) }, tt)
taken_stand horizon (run ∷ runs) number are above small = more_stand horizon true run runs number are above small

-- there are no more runs than one more
joined_count : (run : NumberRun) (number : ℕ) → length (joined run number) ≤ 2
joined_count run number = by (is_joined run number) refl
  where
    by : (b : Bool) → is_joined run number ≡ b → length (joined run number) ≤ 2
    by true is = rw is (omega arith)
    by false is = rw is (omega arith)

pub taken_count : (runs : List NumberRun) (number : ℕ) → length (with_taken runs number) ≤ length runs + 1
taken_count [] number = omega arith
taken_count (run ∷ []) number = omega (arith, joined_count run number)
taken_count (run ∷ next ∷ runs) number = omega (arith, taken_count (next ∷ runs) number)

joined_counted : (run : NumberRun) (number : ℕ) → run.count < 2 ^ 32 → AreCounted (joined run number)
joined_counted run number short = by (is_joined run number) refl
  where
    by : (b : Bool) → is_joined run number ≡ b → AreCounted (joined run number)
    by true is =
        let room : run.count < longest_run = ltb-true _ _ (and_parts (number == run.first + run.count) (nat_lt run.count longest_run) is).1 in
        rw is (omega (arith, room), tt)
    by false is = rw is (short, (omega arith, tt))

pub taken_counted : (runs : List NumberRun) (number : ℕ) → AreCounted runs → AreCounted (with_taken runs number)
taken_counted [] number are = (omega arith, tt)
taken_counted (run ∷ []) number are = joined_counted run number are.0
taken_counted (run ∷ next ∷ runs) number are = (are.0, taken_counted (next ∷ runs) number are.1)

-- a number that was taken still is
in_more : (id : ℕ) (run : NumberRun) → is_in_run id run ≡ true → is_in_run id (record { first = run.first; count = run.count + 1 }) ≡ true
in_more id run is =
    let parts = and_parts (nat_le run.first id) (nat_lt id (run.first + run.count)) is in
    let below : id < run.first + run.count = ltb-true _ _ parts.1 in
    and_from (nat_le run.first id) (nat_lt id (run.first + (run.count + 1))) parts.0 (lt-ltb _ _ (omega (arith, below)))

joined_still : (id : ℕ) (run : NumberRun) (number : ℕ) → is_taken id (run ∷ []) ≡ true → is_taken id (joined run number) ≡ true
joined_still id run number is = by (is_joined run number) refl
  where
    here : is_in_run id run ≡ true
    here = or_true (is_in_run id run) false (is_in_run id run ≡ true) is (λ h. h) (λ bad. absurd cc)

    by : (b : Bool) → is_joined run number ≡ b → is_taken id (joined run number) ≡ true
    by true joins = rw joins (or_left (is_in_run id (record { first = run.first; count = run.count + 1 })) false (in_more id run here))
    by false alone = rw alone (or_left (is_in_run id run) (is_taken id (record { first = number; count = 1 } ∷ [])) here)

pub taken_still : (id : ℕ) (runs : List NumberRun) (number : ℕ) → is_taken id runs ≡ true → is_taken id (with_taken runs number) ≡ true
taken_still id [] number is = absurd cc
taken_still id (run ∷ []) number is = joined_still id run number is
taken_still id (run ∷ next ∷ runs) number is =
    or_true (is_in_run id run) (is_taken id (next ∷ runs)) (is_taken id (run ∷ with_taken (next ∷ runs) number) ≡ true) is
    (λ here. or_left (is_in_run id run) (is_taken id (with_taken (next ∷ runs) number)) here)
    (λ there. or_right (is_in_run id run) (is_taken id (with_taken (next ∷ runs) number)) (taken_still id (next ∷ runs) number there))

-- and the number itself is
in_one : (number : ℕ) → is_in_run number (record { first = number; count = 1 }) ≡ true
in_one number = and_from (nat_le number number) (nat_lt number (number + 1)) (le-leb number number (omega arith)) (lt-ltb number (number + 1) (omega arith))

joined_now : (run : NumberRun) (number : ℕ) → is_taken number (joined run number) ≡ true
joined_now run number = by (is_joined run number) refl
  where
    by : (b : Bool) → is_joined run number ≡ b → is_taken number (joined run number) ≡ true
    by true joins =
        let next : number ≡ run.first + run.count = eqb-true _ _ (and_parts (number == run.first + run.count) (nat_lt run.count longest_run) joins).0 in
        rw joins (or_left (is_in_run number (record { first = run.first; count = run.count + 1 })) false
        (and_from (nat_le run.first number) (nat_lt number (run.first + (run.count + 1))) (le-leb _ _ (omega (arith, next))) (lt-ltb _ _ (omega (arith, next)))))
    by false alone =
        rw alone (or_right (is_in_run number run) (is_taken number (record { first = number; count = 1 } ∷ []))
        (or_left (is_in_run number (record { first = number; count = 1 })) false (in_one number)))

pub taken_now : (runs : List NumberRun) (number : ℕ) → is_taken number (with_taken runs number) ≡ true
taken_now [] number = or_left (is_in_run number (record { first = number; count = 1 })) false (in_one number)
taken_now (run ∷ []) number = joined_now run number
taken_now (run ∷ next ∷ runs) number =
    or_right (is_in_run number run) (is_taken number (with_taken (next ∷ runs) number)) (taken_now (next ∷ runs) number)

-- ---- numbers of runs

-- they are no greater than the greatest one
pub taken_small : (id low : ℕ) (full : Bool) (runs : List NumberRun) → AreStanding low full runs → is_taken id runs ≡ true → id ≤ greatest_number
taken_small id low full [] are is = absurd cc
taken_small id low full (run ∷ runs) are is =
    or_true (is_in_run id run) (is_taken id runs) (id ≤ greatest_number) is
    (λ here.
    let below : id < run.first + run.count = ltb-true _ _ (and_parts (nat_le run.first id) (nat_lt id (run.first + run.count)) here).1 in
    let small : last_of_run run ≤ greatest_number = are.0.small in
    omega (arith, below, small))
    (taken_small id (last_of_run run) (is_full run) runs are.1)

-- nor than the last one
pub low_last : (low : ℕ) (full : Bool) (runs : List NumberRun) → AreStanding low full runs → low ≤ last_by last_of_run low runs
low_last low full [] are = omega arith
low_last low full (run ∷ runs) are = omega (arith, are.0.above, are.0.some, low_last (last_of_run run) (is_full run) runs are.1)

pub taken_last : (id low : ℕ) (full : Bool) (runs : List NumberRun) → AreStanding low full runs → is_taken id runs ≡ true
    → id ≤ last_by last_of_run low runs
taken_last id low full [] are is = absurd cc
taken_last id low full (run ∷ runs) are is =
    or_true (is_in_run id run) (is_taken id runs) (id ≤ last_by last_of_run low (run ∷ runs)) is
    (λ here.
    let below : id < run.first + run.count = ltb-true _ _ (and_parts (nat_le run.first id) (nat_lt id (run.first + run.count)) here).1 in
    omega (arith, below, low_last (last_of_run run) (is_full run) runs are.1))
    (taken_last id (last_of_run run) (is_full run) runs are.1)

pub in_counted : (n first count : ℕ) → IsIn n (counted first count) → (first ≤ n) × (n < first + count)
in_counted n first zero here = absurd here
in_counted n first (suc count) (inl is) = omega (arith, is)
in_counted n first (suc count) (inr more) =
    let rest = in_counted n (first + 1) count more in omega (arith, rest.0, rest.1)

pub counted_in : (n first count : ℕ) → first ≤ n → n < first + count → IsIn n (counted first count)
counted_in n first zero low high = absurd (omega (arith, low, high))
counted_in n first (suc count) low high = elim (cases_eq first n) [
  | inl is ↦ inl is
  | inr apart ↦ inr (counted_in n (first + 1) count (omega (arith, low, apart)) (omega (arith, high)))
]

pub in_both : (n : ℕ) (xs ys : List ℕ) → IsIn n (xs ++ ys) → IsIn n xs ⊎ IsIn n ys
in_both n [] ys here = inr here
in_both n (x ∷ xs) ys (inl is) = inl (inl is)
in_both n (x ∷ xs) ys (inr more) = elim (in_both n xs ys more) [ inl first ↦ inl (inr first) | inr second ↦ inr second ]

pub in_first : (n : ℕ) (xs ys : List ℕ) → IsIn n xs → IsIn n (xs ++ ys)
in_first n [] ys here = absurd here
in_first n (x ∷ xs) ys (inl is) = inl is
in_first n (x ∷ xs) ys (inr more) = inr (in_first n xs ys more)

pub in_second : (n : ℕ) (xs ys : List ℕ) → IsIn n ys → IsIn n (xs ++ ys)
in_second n [] ys here = here
in_second n (x ∷ xs) ys here = inr (in_second n xs ys here)

pub taken_in : (id : ℕ) (runs : List NumberRun) → is_taken id runs ≡ true → IsIn id (numbers_of runs)
taken_in id [] is = absurd cc
taken_in id (run ∷ runs) is =
    or_true (is_in_run id run) (is_taken id runs) (IsIn id (numbers_of (run ∷ runs))) is
    (λ here.
    let parts = and_parts (nat_le run.first id) (nat_lt id (run.first + run.count)) here in
    in_first id (counted run.first run.count) (numbers_of runs) (counted_in id run.first run.count (leb-true _ _ parts.0) (ltb-true _ _ parts.1)))
    (λ there. in_second id (counted run.first run.count) (numbers_of runs) (taken_in id runs there))

-- the last one is a number of theirs, where there are some
pub last_in : (low : ℕ) (full : Bool) (runs : List NumberRun) → AreStanding low full runs
    → (last_by last_of_run low runs ≡ low) ⊎ IsIn (last_by last_of_run low runs) (numbers_of runs)
last_in low full [] are = inl refl
last_in low full (run ∷ runs) are =
    elim (last_in (last_of_run run) (is_full run) runs are.1) [
      | inl is ↦
          inr (in_first (last_by last_of_run low (run ∷ runs)) (counted run.first run.count) (numbers_of runs)
          (counted_in (last_by last_of_run low (run ∷ runs)) run.first run.count (omega (arith, is, are.0.some)) (omega (arith, is, are.0.some))))
      | inr more ↦ inr (in_second (last_by last_of_run low (run ∷ runs)) (counted run.first run.count) (numbers_of runs) more)
    ]

-- all are above what is before them
pub numbers_above : (n low : ℕ) (full : Bool) (runs : List NumberRun) → AreStanding low full runs → IsIn n (numbers_of runs) → low < n
numbers_above n low full [] are here = absurd here
numbers_above n low full (run ∷ runs) are here =
    let above : low < run.first = are.0.above in
    let some : 0 < run.count = are.0.some in
    elim (in_both n (counted run.first run.count) (numbers_of runs) here) [
      | inl first ↦ let c = in_counted n run.first run.count first in omega (arith, above, c.0)
      | inr rest ↦ let c = numbers_above n (last_of_run run) (is_full run) runs are.1 rest in omega (arith, above, some, c)
    ]

-- ---- gaps

-- no more than so many numbers between runs
abbrev pub AreNear : ℕ → ℕ → List NumberRun → Type 0
AreNear most low [] = Unit {0}
AreNear most low (run ∷ runs) = (run.first - low - 1 ≤ most) × AreNear most (last_of_run run) runs

pub near_more : (most more low : ℕ) (runs : List NumberRun) → most ≤ more → AreNear most low runs → AreNear more low runs
near_more most more low [] le near = tt
near_more most more low (run ∷ runs) le near = (omega (arith, le, near.0), near_more most more (last_of_run run) runs le near.1)

joined_near : (most low : ℕ) (run : NumberRun) (number : ℕ) → run.first - low - 1 ≤ most → number - last_of_run run - 1 ≤ most
    → AreNear most low (joined run number)
joined_near most low run number near last = by (is_joined run number) refl
  where
    by : (b : Bool) → is_joined run number ≡ b → AreNear most low (joined run number)
    by true is = rw is (near, tt)
    by false is = rw is (near, (last, tt))

pub taken_near : (most low : ℕ) (runs : List NumberRun) (number : ℕ) → AreNear most low runs → number - last_by last_of_run low runs - 1 ≤ most
    → AreNear most low (with_taken runs number)
taken_near most low [] number near last = (last, tt)
taken_near most low (run ∷ []) number near last = joined_near most low run number near.0 last
taken_near most low (run ∷ next ∷ runs) number near last = (near.0, taken_near most (last_of_run run) (next ∷ runs) number near.1 last)

-- So they are runs of a base.
pub are_runs : (most low : ℕ) (full joins : Bool) (runs : List NumberRun) → most < 2 ^ 32 → (full ≡ true → joins ≡ true) → AreStanding low full runs
    → AreCounted runs → AreNear most low runs → AreRuns low joins runs
are_runs most low full joins [] short fills are counted near = tt
are_runs most low full joins (run ∷ runs) short fills are counted near =
    let few : run.count < 2 ^ 32 = counted.0 in (
      record {
        above = are.0.above;
        gap = omega (arith, short, near.0);
        apart = or_more (nat_lt 0 (run.first - low - 1)) full joins are.0.apart fills;
        some = are.0.some;
        count = few;
        small = are.0.small;
      },
      are_runs most (last_of_run run) (is_full run) (run.count == longest_run) runs short
          (λ full. let most_of : longest_run ≤ run.count = leb-true _ _ full in eq-eqb run.count longest_run (omega (arith, most_of, few)))
          are.1 counted.1 near.1,
    )
