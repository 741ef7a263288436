-- One run more of taken numbers.
use Rattle.std.proofs.Common.{◌≡◌, ◌∙◌, ℕ, List, [], ◌∷◌, ◌++◌, map, Result, Ok, refl, sym, ap, append_assoc, ◌+◌, true, false}
use Rattle.std.proofs.lemmas.List.{map-append, map_push}
use Rattle.hse_fields.specs.LogReading.{◌>>=◌}
use Rattle.hse_rows.specs.machine.TakenRuns.{NumberRun}
use Rattle.manifest.specs.Reading.{RunsRead, run_of, run_step, with_run}
use Rattle.manifest.specs.Metadata.{is_joined, joined, with_taken}
use Rattle.manifest.specs.Views.{Fails}
use Rattle.hse_rows.specs.machine.TakenRuns.{run_as}
use Rattle.hse_rows.specs.declared.taken_run.TakenRun.{TakenRun}
use Rattle.hse_fields.specs.declared.refusal.Refusal.{Refusal}
use Rattle.hse_fields.specs.declared.refusal.Refusal.TheVariants.{Left, NoMemory}

pub run_more : (read : RunsRead) (run : NumberRun) (bytes rest : List ℕ) → run_of read.low read.joins bytes ≡ Ok (run, rest)
    → run_step read bytes ≡ Ok (with_run read run, rest)
unfolding run_step
run_more read run bytes rest is = rw is refl

pub run_refused : (refusal : Refusal) (read : RunsRead) (bytes : List ℕ) → Fails refusal (run_of read.low read.joins bytes)
    → Fails refusal (run_step read bytes)
unfolding run_step
run_refused (Left left) read bytes is = rw is refl
run_refused NoMemory read bytes is = tt

-- the runs that were read, where nothing was refused
pub runs_refused : (refusal : Refusal) (total : Result (RunsRead × List ℕ) ℕ) → Fails refusal total
    → Fails {Y = List NumberRun × List ℕ} refusal (total >>= λ x. Ok (x.0.runs, x.1))
runs_refused (Left left) total is = rw is refl
runs_refused NoMemory total is = tt

-- one number more behind the last run
pub with_taken-end : (front : List NumberRun) (run : NumberRun) (number : ℕ) → with_taken (front ++ run ∷ []) number ≡ front ++ joined run number
with_taken-end [] run number = refl
with_taken-end (x ∷ []) run number = refl
with_taken-end (x ∷ y ∷ xs) run number = ap (λ (l : List NumberRun). x ∷ l) (with_taken-end (y ∷ xs) run number)

-- the runs of a vector, the last of which is taken off and put back with the number
pub runs_taken : (old rest new : List TakenRun) (last : TakenRun) (more : List TakenRun) (number : ℕ) → old ≡ rest ++ last ∷ [] → new ≡ rest ++ more
    → map run_as more ≡ joined (run_as last) number → map run_as new ≡ with_taken (map run_as old) number
runs_taken old rest new last more number was is same =
    ap (map run_as) is ∙ map-append run_as rest more ∙ ap (λ (l : List NumberRun). map run_as rest ++ l) same
    ∙ sym (with_taken-end (map run_as rest) (run_as last) number)
    ∙ ap (λ (l : List NumberRun). with_taken l number) (sym (ap (map run_as) was ∙ map_push run_as rest last))

joins : (run : NumberRun) (number : ℕ) → true ≡ is_joined run number → joined run number ≡ record { first = run.first; count = run.count + 1 } ∷ []
joins run number is = rw (← is) refl

stands_alone : (run : NumberRun) (number : ℕ) → false ≡ is_joined run number → joined run number ≡ run ∷ record { first = number; count = 1 } ∷ []
stands_alone run number is = rw (← is) refl

pub run_joined : (old rest new : List TakenRun) (last one : TakenRun) (number : ℕ) → true ≡ is_joined (run_as last) number
    → one.first ≡ last.first → one.count ≡ last.count + 1 → old ≡ rest ++ last ∷ [] → new ≡ rest ++ one ∷ []
    → map run_as new ≡ with_taken (map run_as old) number
run_joined old rest new last one number joint first count was is =
    runs_taken old rest new last (one ∷ []) number was is
    ((λ i. record { first = first i; count = count i } ∷ []) ∙ sym (joins (run_as last) number joint))

pub run_added : (old rest between new : List TakenRun) (last one : TakenRun) (number : ℕ) → false ≡ is_joined (run_as last) number
    → one.first ≡ number → one.count ≡ 1 → old ≡ rest ++ last ∷ [] → between ≡ rest ++ last ∷ [] → new ≡ between ++ one ∷ []
    → map run_as new ≡ with_taken (map run_as old) number
run_added old rest between new last one number apart first count was back is =
    runs_taken old rest new last (last ∷ one ∷ []) number was
    (is ∙ ap (λ (l : List TakenRun). l ++ one ∷ []) back ∙ append_assoc rest (last ∷ []) (one ∷ []))
    ((λ i. run_as last ∷ record { first = first i; count = count i } ∷ []) ∙ sym (stands_alone (run_as last) number apart))
