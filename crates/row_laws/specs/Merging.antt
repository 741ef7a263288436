-- Merged rows: those of keys, in order, and the pairs that they leave.
use Rattle.std.specs.Prelude.{◌≡◌, ◌==◌, Bool, true, not, List, [], ◌∷◌, flat_map, Option}
use Rattle.std.specs.List.{AllByRecursion, filter}
use Rattle.hse_rows.specs.declared.change.Change.{Change}
use Rattle.hse_rows.specs.declared.change.Change.TheVariants.{Put, Del, PDel}
use Rattle.hse_rows.specs.declared.row.Row.{Row}
use Rattle.hse_rows.specs.writes.Change.{target}
use Rattle.hse_rows.specs.writes.NormalForm.{rank}
use Rattle.hse_rows.specs.rows.Newest.{newest}
use Rattle.hse_rows.specs.script.Cursor.{Pair, Direction, Position, directed, is_reached, first_of}

abbrev pub is_key_row : Row → Bool
is_key_row row = not (rank row.change == 0)

-- the newest rows of keys that no newer prefix delete covers, by key, deletions among them
abbrev pub key_rows : List Row → List Row
key_rows rows = filter is_key_row (newest rows)

abbrev pub pair_of : Change → List Pair
pair_of (Put key bytes) = (key, bytes) ∷ []
pair_of (Del key) = []
pair_of (PDel prefix) = []

-- the pairs that rows put
abbrev pub pairs_of : List Row → List Pair
pairs_of rows = flat_map (λ (row : Row). pair_of row.change) rows

-- the merged row that stands first at or past a position in a direction
abbrev pub next_by : Direction → Position → List Row → Option Row
next_by direction position rows =
    first_of (filter (λ (row : Row). is_reached direction position (target row.change)) (directed direction (key_rows rows)))

-- not two rows of one key with one number
abbrev pub AreTwoKeys : Row → Row → Type 0
AreTwoKeys row other =
    row.number ≡ other.number → is_key_row row ≡ true → is_key_row other ≡ true → target row.change ≡ target other.change → ⊥

-- no number has a key twice
abbrev pub AreOncePerNumber : List Row → Type 0
AreOncePerNumber [] = Unit {0}
AreOncePerNumber (row ∷ rows) = AllByRecursion (AreTwoKeys row) rows × AreOncePerNumber rows
