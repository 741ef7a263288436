-- Rows in parts that stand on a key's path and parts that stand off it.
use Rattle.std.specs.Prelude.{◌≡◌, ◌<◌, ℕ, Bool, false, cond, List, [], ◌∷◌, ◌++◌, Option, Some, None}
use Rattle.std.specs.List.{list_any}
use Rattle.hse_rows.specs.declared.row.Row.{Row}
use Rattle.hse_rows.specs.rows.Meaning.{is_own, own_at, covered_at}

-- rows, and whether they stand on the path
abbrev pub RowPart : Type 0
RowPart = Bool × List Row

abbrev pub rows_on : List RowPart → List Row
rows_on [] = []
rows_on (part ∷ parts) = cond part.0 part.1 [] ++ rows_on parts

abbrev pub rows_off : List RowPart → List Row
rows_off [] = []
rows_off (part ∷ parts) = cond part.0 [] part.1 ++ rows_off parts

abbrev pub rows_in : List RowPart → List Row
rows_in [] = []
rows_in (part ∷ parts) = part.1 ++ rows_in parts

abbrev pub IsBelow : ℕ → Option ℕ → Type 0
IsBelow number None = ⊥
IsBelow number (Some other) = number < other

-- Off its path no row is of the key, and where a prefix delete there is newer than the key's row, one on the path is.
pub record StandsOnPath (key : List ℕ) (parts : List RowPart) : Type 0 where
  pub own : list_any (is_own key) (rows_off parts) ≡ false
  pub covered :
      (own : Row) → own_at key (rows_on parts) ≡ Some own
      → IsBelow own.number (covered_at key (rows_off parts)) → IsBelow own.number (covered_at key (rows_on parts))
