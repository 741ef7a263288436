-- So many steps of reading, one after another, as a loop makes them.
use Rattle.std.proofs.Common.{◌≡◌, ℕ, zero, suc, ◌-◌, ◌<◌, ◌≤◌, List, Result, Ok, Err, refl, sym, ◌∙◌, arith}
use Rattle.manifest.specs.Reading.{many}
use Rattle.manifest.specs.Views.{Fails}
use Rattle.hse_fields.specs.declared.refusal.Refusal.{Refusal}
use Rattle.hse_fields.specs.declared.refusal.Refusal.TheVariants.{Left, NoMemory}

abbrev pub Step : Type 0 → Type 0
Step S = S → List ℕ → Result (S × List ℕ) ℕ

pub goes_on : {S : Type 0} (step : Step S) (state after : S) (n : ℕ) (bytes rest : List ℕ) (total : Result (S × List ℕ) ℕ)
    → 0 < n → step state bytes ≡ Ok (after, rest) → many step state n bytes ≡ total → many step after (n - 1) rest ≡ total
unfolding many
goes_on {S = S} step state after zero bytes rest total lt read so_far = absurd (omega (arith, lt))
goes_on {S = S} step state after (suc n) bytes rest total lt read so_far =
    let k : suc n - 1 ≡ n = omega arith in
    let one : many step state (suc n) bytes ≡ many step after n rest = rw read refl in
    rw k (sym one ∙ so_far)

pub stops : {S : Type 0} (refusal : Refusal) (step : Step S) (state : S) (n : ℕ) (bytes : List ℕ) (total : Result (S × List ℕ) ℕ)
    → 0 < n → Fails refusal (step state bytes) → many step state n bytes ≡ total → Fails refusal total
unfolding many
stops {S = S} NoMemory step state n bytes total lt read so_far = tt
stops {S = S} (Left left) step state n bytes total lt read so_far =
    let k : n ≡ suc (n - 1) = omega arith in
    let one : many step state n bytes ≡ Err left = rw (k, read) refl in
    sym so_far ∙ one

pub is_done : {S : Type 0} (step : Step S) (state : S) (n : ℕ) (bytes : List ℕ) (total : Result (S × List ℕ) ℕ)
    → n ≤ 0 → many step state n bytes ≡ total → total ≡ Ok (state, bytes)
unfolding many
is_done {S = S} step state n bytes total le so_far =
    let k : n ≡ 0 = omega arith in
    let one : many step state n bytes ≡ Ok (state, bytes) = rw k refl in
    sym so_far ∙ one
