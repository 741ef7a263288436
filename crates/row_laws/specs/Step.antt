-- One more row, and the rows that a merge leaves.
use Rattle.std.specs.Prelude.{◌≡◌, false, List, [], ◌∷◌}
use Rattle.std.specs.List.{AllByRecursion}
use Rattle.std.specs.Ordering.{is_lt}
use Rattle.hse_rows.specs.declared.row.Row.{Row}
use Rattle.hse_rows.specs.writes.Change.{target}
use Rattle.hse_rows.specs.writes.NormalForm.{rank}
use Rattle.hse_rows.specs.writes.Reach.{leaves}
use Rattle.hse_rows.specs.rows.Meaning.{apply_cmp}

-- none of the rows applies after this one
abbrev pub AppliesLast : List Row → Row → Type 0
AppliesLast rows row = AllByRecursion (λ (other : Row). is_lt (apply_cmp row other) ≡ false) rows

-- two rows of one number and of one key, or of one prefix, leave the same there
abbrev pub AgreesWith : Row → Row → Type 0
AgreesWith row other =
    row.number ≡ other.number → rank row.change ≡ rank other.change → target row.change ≡ target other.change
    → leaves row.change ≡ leaves other.change

-- each two of these do
abbrev pub AreAgreed : List Row → Type 0
AreAgreed [] = Unit {0}
AreAgreed (row ∷ rows) = AllByRecursion (AgreesWith row) rows × AreAgreed rows

-- rows in the order in which they apply
abbrev pub IsInOrder : List Row → Type 0
IsInOrder [] = Unit {0}
IsInOrder (row ∷ rows) = AllByRecursion (λ (other : Row). is_lt (apply_cmp other row) ≡ false) rows × IsInOrder rows
