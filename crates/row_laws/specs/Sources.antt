-- Rows in several sources, nearest first: layers and sets on a path.
use Rattle.std.specs.Prelude.{◌≡◌, ◌<◌, ℕ, true, List, [], ◌∷◌, ◌++◌, flat_map, Option, Some, None, is_some}
use Rattle.std.specs.List.{AllByRecursion}
use Rattle.hse_rows.specs.declared.row.Row.{Row}
use Rattle.hse_rows.specs.writes.Reach.{reaches}
use Rattle.hse_rows.specs.rows.Meaning.{own_at, covered_at, said}

-- all rows of these sources
abbrev pub all_rows : List (List Row) → List Row
all_rows sources = flat_map (λ rows. rows) sources

-- each row of the near ones that reaches the key has a greater number than each of the far ones that does
abbrev pub IsAbove : List ℕ → List Row → List Row → Type 0
IsAbove key near far =
    AllByRecursion (λ (row : Row). reaches row.change key ≡ true
    → AllByRecursion (λ (other : Row). reaches other.change key ≡ true → other.number < row.number) far) near

-- From source to source the numbers of the rows that reach the key fall, as far as a row of the key itself stands in
-- this source or behind it. Where none does, prefix deletes may stand in any order.
abbrev pub Falls : List ℕ → List (List Row) → Type 0
Falls key [] = Unit {0}
Falls key (rows ∷ farther) =
    (is_some (own_at key (rows ++ all_rows farther)) ≡ true → IsAbove key rows (all_rows farther)) × Falls key farther

-- each row of these layers has a greater number than each of farther layers and of those rows
abbrev pub AreLayersOver : List Row → List (List Row) → Type 0
AreLayersOver far [] = Unit {0}
AreLayersOver far (rows ∷ layers) =
    AllByRecursion (λ (row : Row). AllByRecursion (λ (other : Row). other.number < row.number) (all_rows layers ++ far)) rows
    × AreLayersOver far layers

abbrev pub or_else : Option (Option (List ℕ)) → Option (Option (List ℕ)) → Option (Option (List ℕ))
or_else None other = other
or_else (Some value) other = Some value

-- what the first source that says something of the key says
abbrev pub first_said : List ℕ → List (List Row) → Option (Option (List ℕ))
first_said key [] = None
first_said key (rows ∷ farther) = or_else (said (own_at key rows) (covered_at key rows)) (first_said key farther)
