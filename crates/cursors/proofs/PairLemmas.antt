-- A place has one row, and one pair.
use Rattle.std.proofs.Common.{◌≡◌, ℕ, zero, suc, List, [], ◌∷◌, Some, sym, ap, ◌∙◌}
use Rattle.hse_rows.specs.declared.row.Row.{Row}
use Rattle.hse_rows.specs.declared.change.Change.{Change}
use Rattle.hse_rows.specs.declared.change.Change.TheVariants.{Put, Del, PDel}
use Rattle.hse_rows.specs.script.Cursor.{Pair}
use Rattle.merge.specs.Steps.{IsRowAt}
use Rattle.cursors.specs.Cursors.{IsPairAt}

some-is : (x y : Row) → Some x ≡ Some y → x ≡ y
some-is x y is = cc

one-row : (sources : List (List Row)) (source at : ℕ) (row other : Row) → IsRowAt sources source at row → IsRowAt sources source at other → row ≡ other
one-row [] source at row other a b = absurd a
one-row (rows ∷ sources) zero at row other a b = some-is row other (sym a ∙ b)
one-row (rows ∷ sources) (suc source) at row other a b = one-row sources source at row other a b

pub one-pair : (sources : List (List Row)) (source at : ℕ) (row : Row) (pair : Pair) → IsRowAt sources source at row → IsPairAt sources source at pair
    → row.change ≡ Put pair.0 pair.1
one-pair sources source at row pair there is = ap (λ (r : Row). r.change) (one-row sources source at row is.row there is.there) ∙ is.puts

key-in : Change → List ℕ
key-in (Put key value) = key
key-in (Del key) = key
key-in (PDel key) = key

value-in : Change → List ℕ
value-in (Put key value) = value
value-in (Del key) = key
value-in (PDel key) = key

pub put-same : (key value : List ℕ) (pair : Pair) → Put key value ≡ Put pair.0 pair.1 → (key, value) ≡ pair
unfolding key-in value-in
put-same key value pair is = λ i. (key-in (is i), value-in (is i))

pub del-none : (key : List ℕ) (pair : Pair) → Del key ≡ Put pair.0 pair.1 → ⊥
del-none key pair is = cc

pub pdel-none : (key : List ℕ) (pair : Pair) → PDel key ≡ Put pair.0 pair.1 → ⊥
pdel-none key pair is = cc
