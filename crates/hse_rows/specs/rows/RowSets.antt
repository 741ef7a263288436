-- Sets of rows, and what is asked of them.
use Rattle.std.specs.Prelude.{ℕ, ◌==◌, Bool, ◌||◌, List, length, Option}
use Rattle.std.specs.List.{AllByRecursion, filter}
use Rattle.std.specs.List.Sorted.{IsStrictlySortedBy}
use Rattle.std.specs.Option.{option_map}
use Rattle.std.specs.Ordering.{nat_cmp, is_lt}
use Rattle.std.specs.Cmp.Lexicographic.{slice_cmp}
use Rattle.hse_rows.specs.declared.row.Row.{Row}
use Rattle.hse_rows.specs.declared.row.RowRef.{RowRef}
use Rattle.hse_rows.specs.declared.change.Change.TheVariants.{Del}
use Rattle.hse_rows.specs.writes.Change.{change_of, target, FitsLimits}
use Rattle.hse_rows.specs.writes.NormalForm.{rank}
use Rattle.hse_rows.specs.rows.Newest.{row_cmp}

-- rows in the order of a set, each key and each prefix once, with lengths within the limits
pub record AreRows (rows : List Row) : Type 0 where
  pub rising : IsStrictlySortedBy row_cmp rows
  pub within : AllByRecursion (λ (row : Row). FitsLimits row.change) rows

-- the row that lent bytes say
abbrev pub row_of : RowRef → Row
row_of lent = record { number = lent.number; change = change_of lent.change }

abbrev pub row_by : Option RowRef → Option Row
row_by found = option_map row_of found

-- a row that is of a prefix, or of a key below the edge
abbrev pub is_before : List ℕ → Row → Bool
is_before edge row = (rank row.change == 0) || is_lt (slice_cmp nat_cmp (target row.change) edge)

-- the first place of a key row at or after the edge
abbrev pub place_of : List ℕ → List Row → ℕ
place_of edge rows = length (filter (is_before edge) rows)

-- a row of this key
abbrev pub key_row : List ℕ → Row
key_row key = record { number = 0; change = Del key }
