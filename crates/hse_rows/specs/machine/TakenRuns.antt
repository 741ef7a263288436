-- Numbers in runs: as few as say them, where each is of numbers that follow one another.
use Rattle.std.specs.Prelude.{ℕ, zero, suc, ◌+◌, ◌^◌, ◌-◌, ◌==◌, nat_lt, ◌&&◌, if◌then◌else◌, List, [], ◌∷◌, ◌++◌, map}
use Rattle.hse_rows.specs.declared.taken_run.TakenRun.{TakenRun}

pub record NumberRun : Type 0 where
  pub first : ℕ
  pub count : ℕ

-- the most numbers of one run
abbrev pub longest_run : ℕ
longest_run = 2 ^ 32 - 1

-- the runs of these numbers behind an open run, which takes the number that follows while it has room
abbrev pub runs_from : ℕ → ℕ → List ℕ → List NumberRun
runs_from first count [] = record { first = first; count = count } ∷ []
runs_from first count (number ∷ numbers) =
    if (number == first + count) && nat_lt count longest_run
    then runs_from first (count + 1) numbers
    else (record { first = first; count = count } ∷ runs_from number 1 numbers)

-- the runs of ascending numbers
abbrev pub runs_of : List ℕ → List NumberRun
runs_of [] = []
runs_of (number ∷ numbers) = runs_from number 1 numbers

-- so many numbers from this one on
abbrev pub counted : ℕ → ℕ → List ℕ
counted first zero = []
counted first (suc count) = first ∷ counted (first + 1) count

-- the numbers of runs, one run after another
abbrev pub numbers_of : List NumberRun → List ℕ
numbers_of [] = []
numbers_of (run ∷ runs) = counted run.first run.count ++ numbers_of runs

abbrev pub run_as : TakenRun → NumberRun
run_as run = record { first = run.first; count = run.count }

abbrev pub runs_as : List TakenRun → List NumberRun
runs_as runs = map run_as runs
