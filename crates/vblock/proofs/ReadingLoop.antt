-- Reading values one after the other, as a loop does.
use Rattle.std.proofs.Common.{◌≡◌, ℕ, suc, ◌-◌, ◌+◌, ◌≤◌, ◌<◌, List, length, Result, Ok, Err, sym, subst, ◌∙◌, arith}
use Rattle.hse_fields.specs.LogReading.{sized_of}
use Rattle.hse_fields.specs.BlockReading.{behind_of, values_of}
use Rattle.hse_fields.specs.laws.Blocks.{values_behind, values_refused, values_none}
use Rattle.hse_fields.specs.laws.Within.{Within, sized_within}

module _ (most : ℕ) where
  pub goes_on : (count i : ℕ) (bytes : List ℕ) (first : List ℕ × List ℕ) (total : Result (List ℕ) ℕ) → i < count
      → sized_of 4 0 most bytes ≡ Ok first → behind_of (values_of most (count - i) bytes) ≡ total
      → behind_of (values_of most (count - (i + 1)) first.1) ≡ total
  goes_on count i bytes first total lt e so_far =
      let k : count - i ≡ suc (count - (i + 1)) = omega arith in
      sym (values_behind most (count - (i + 1)) bytes first e) ∙ (rw k at so_far)

  pub stops : (count i : ℕ) (bytes : List ℕ) (left : ℕ) (total : Result (List ℕ) ℕ) → i < count
      → sized_of 4 0 most bytes ≡ Err left → behind_of (values_of most (count - i) bytes) ≡ total → total ≡ Err left
  stops count i bytes left total lt e so_far =
      let k : count - i ≡ suc (count - (i + 1)) = omega arith in
      sym (rw k at so_far) ∙ values_refused most (count - (i + 1)) bytes left e

  pub is_done : (count i : ℕ) (bytes : List ℕ) (total : Result (List ℕ) ℕ) → count ≤ i → behind_of (values_of most (count - i) bytes) ≡ total
      → total ≡ Ok bytes
  is_done count i bytes total le so_far =
      let k : count - i ≡ 0 = omega arith in
      sym (rw k at so_far) ∙ values_none most bytes

  -- a refused value lies in the bytes
  pub value_inside : (bytes : List ℕ) (left : ℕ) → sized_of 4 0 most bytes ≡ Err left → left ≤ length bytes
  value_inside bytes left e =
      subst (λ (r : Result (List ℕ × List ℕ) ℕ). Within (length bytes) r) e (sized_within 4 0 most (length bytes) bytes (omega arith))
