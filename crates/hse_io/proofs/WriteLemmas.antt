-- Bytes that are written beginning by beginning.
use Rattle.std.proofs.Common.{◌≡◌, ◌≤◌, ℕ, ◌+◌, ◌-◌, List, ◌++◌, length, take, drop, Result, Ok, Err, OnErr, sym, ap, ◌∙◌, arith, length-drop}
use Rattle.std.proofs.Math.Seq.{take-add}
use Rattle.std.proofs.lemmas.List.{take_rest}

-- a fact holds where a result is an `Err` too
pub OnErr-always : {T E P : Type 0} (r : Result T E) → P → OnErr r P
OnErr-always (Ok x) p = tt
OnErr-always (Err e) p = p

-- what is done, and a beginning of what is left, are a longer beginning
pub take_more : (bytes : List ℕ) (done count : ℕ) → take (done + count) bytes ≡ take done bytes ++ take count (take (length bytes - done) (drop done bytes))
take_more bytes done count = take-add done count bytes ∙ ap (λ l. take done bytes ++ take count l) (sym (take_rest bytes done))

pub within_more : (bytes : List ℕ) (done count : ℕ) → done ≤ length bytes → count ≤ length (take (length bytes - done) (drop done bytes)) → done + count ≤ length bytes
within_more bytes done count within more = omega (arith, ap length (take_rest bytes done), length-drop done bytes)
