-- How long the entries of values are.
use Rattle.std.proofs.Common.{◌≡◌, ℕ, suc, ◌*◌, ◌≤◌, List, [], ◌∷◌, length, arith, length-append, refl}
use Rattle.hse_fields.specs.LogText.{sized}
use Rattle.hse_fields.specs.BlockText.{values_text}

-- each value has four bytes at least
pub four_bytes_each : (values : List (List ℕ)) → 4 * length values ≤ length (values_text values)
four_bytes_each [] = omega arith
four_bytes_each (v ∷ vs) =
    let entry : length (sized 4 v) ≡ suc (suc (suc (suc (length v)))) = refl in
    omega (arith, four_bytes_each vs, length-append (sized 4 v) (values_text vs), entry)
