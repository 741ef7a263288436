-- How many keys stand below an edge.
use Rattle.std.specs.Prelude.{ℕ, Bool, List, length, Result, Ok, Err}
use Rattle.std.specs.List.{filter}
use Rattle.std.specs.Ordering.{nat_cmp, is_lt}
use Rattle.std.specs.Cmp.Lexicographic.{slice_cmp}
use Rattle.hse_fields.specs.BlockText.{KeyEntry}

abbrev pub is_below : List ℕ → KeyEntry → Bool
is_below edge entry = is_lt (slice_cmp nat_cmp entry.key edge)

abbrev pub count_below : List ℕ → List KeyEntry → ℕ
count_below edge entries = length (filter (is_below edge) entries)

-- the same among entries that were read
abbrev pub below_in : List ℕ → Result (List KeyEntry × List ℕ) ℕ → ℕ
below_in edge (Ok x) = count_below edge x.0
below_in edge (Err left) = 0
