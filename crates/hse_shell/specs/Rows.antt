-- Rows in the order of their keys.
use Rattle.std.specs.Prelude.{ℕ, List, map}
use lib.Dec.{T}
use Rattle.std.specs.Ordering.{nat_cmp}
use Rattle.std.specs.Cmp.Lexicographic.{slice_cmp}
use Rattle.std.specs.FinMap.{is_sorted}
use Rattle.hse_shell.specs.declared.rows.Row.{Row}

-- a row's key and its value
abbrev pub pair_of : Row → List ℕ × List ℕ
pair_of row = (row.key.items, row.value.items)

abbrev pub pairs_of : List Row → List (List ℕ × List ℕ)
pairs_of rows = map pair_of rows

-- the keys strictly rise
abbrev pub AreRising : List Row → Type 0
AreRising rows = T (is_sorted (slice_cmp nat_cmp) (pairs_of rows))
