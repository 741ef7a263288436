-- Which number comes first behind a log, and whether taken numbers are left behind it.
use Rattle.std.proofs.Common.{◌≡◌, ◌∙◌, ℕ, zero, suc, ◌+◌, ◌≤◌, true, false, List, [], ◌∷◌, ◌++◌, length, sym, refl, arith}
use Rattle.std.specs.Prelude.{◌==◌}
use Rattle.std.proofs.lemmas.Bool.{eqb-true}
use Rattle.hse_rows.specs.declared.taken_run.TakenRun.{TakenRun}
use Rattle.hse_rows.specs.machine.TakenRuns.{counted, numbers_of, runs_as}
use Rattle.wal.specs.Numbering.{free_from, taken_from}

-- by equal numbers and runs the same is found
pub free_by : (found next next' : ℕ) (runs runs' : List TakenRun) → found ≡ free_from next (numbers_of (runs_as runs)) → runs ≡ runs' → next ≡ next'
    → found ≡ free_from next' (numbers_of (runs_as runs'))
free_by found next next' runs runs' is same alike = is ∙ (λ i. free_from (alike i) (numbers_of (runs_as (same i))))

pub taken_by : (found : List ℕ) (next next' : ℕ) (runs runs' : List TakenRun) → found ≡ taken_from next (numbers_of (runs_as runs)) → runs ≡ runs'
    → next ≡ next' → found ≡ taken_from next' (numbers_of (runs_as runs'))
taken_by found next next' runs runs' is same alike = is ∙ (λ i. taken_from (alike i) (numbers_of (runs_as (same i))))

-- no run has no number
pub no_numbers : (runs : List TakenRun) → true ≡ (length runs == 0) → numbers_of (runs_as runs) ≡ []
no_numbers [] is = refl
no_numbers (run ∷ runs) is = absurd (omega (arith, eqb-true (length (run ∷ runs)) 0 (sym is)))

not_empty : (x : ℕ) (xs : List ℕ) → x ∷ xs ≡ [] → ⊥
not_empty x xs is = cc

counted_some : (first count : ℕ) (rest : List ℕ) → 1 ≤ count → counted first count ++ rest ≡ [] → ⊥
counted_some first zero rest some is = absurd (omega (arith, some))
counted_some first (suc count) rest some is = not_empty first (counted (first + 1) count ++ rest) is

-- and each run has some
pub some_numbers : (runs : List TakenRun) → false ≡ (length runs == 0) → numbers_of (runs_as runs) ≡ [] → ⊥
some_numbers [] is none = absurd cc
some_numbers (run ∷ runs) is none = counted_some run.first run.count (numbers_of (runs_as runs)) run.some none
