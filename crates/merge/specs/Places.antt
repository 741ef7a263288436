-- Places in the rows of sources, from which a merge goes on in a direction.
use Rattle.std.specs.Prelude.{◌≡◌, ℕ, zero, suc, ◌+◌, ◌-◌, ◌==◌, Bool, true, false, ◌||◌, not, cond, List, [], ◌∷◌, length, map, slice_get, Option, Some, None}
use Rattle.std.specs.List.{filter}
use Rattle.std.specs.Ordering.{is_lt}
use Rattle.hse_rows.specs.declared.row.Row.{Row}
use Rattle.hse_rows.specs.writes.Change.{target}
use Rattle.hse_rows.specs.writes.NormalForm.{rank}
use Rattle.hse_rows.specs.rows.Meaning.{is_own}
use Rattle.hse_rows.specs.script.Cursor.{Direction, Position, forward, backward, direction_cmp, is_reached}
use Rattle.row_laws.specs.Merging.{is_key_row}

abbrev pub direction_of : Bool → Direction
direction_of false = forward
direction_of true = backward

-- A place parts the rows of a set: going up those behind it are left, going down those before it.
abbrev pub is_parted : Direction → Position → List ℕ → Bool
is_parted forward position key = not (is_reached forward position key)
is_parted backward position key = is_reached backward position key

abbrev pub stands_before : Direction → Position → Row → Bool
stands_before direction position row = (rank row.change == 0) || is_parted direction position (target row.change)

-- the place of a position
abbrev pub place_by : Direction → Position → List Row → ℕ
place_by direction position rows = length (filter (stands_before direction position) rows)

-- a row of a key
abbrev pub if_key : Option Row → Option Row
if_key None = None
if_key (Some row) = cond (is_key_row row) (Some row) None

-- the index of the row that comes next from a place
abbrev pub index_from : Direction → ℕ → ℕ
index_from forward place = place
index_from backward zero = 0
index_from backward (suc place) = place

-- the row that comes next from a place
abbrev pub head_from : Direction → ℕ → List Row → Option Row
head_from forward place rows = slice_get rows place
head_from backward zero rows = None
head_from backward (suc place) rows = if_key (slice_get rows place)

-- the place behind it
abbrev pub place_after : Direction → ℕ → ℕ
place_after forward place = suc place
place_after backward zero = 0
place_after backward (suc place) = place

abbrev pub is_of : List ℕ → Option Row → Bool
is_of key None = false
is_of key (Some row) = is_own key row

-- the place of a source behind a key, where its next row is of that key
abbrev pub passed : Direction → List ℕ → List Row → ℕ → ℕ
passed direction key rows place = cond (is_of key (head_from direction place rows)) (place_after direction place) place

-- each of these places, as far as there are sources
abbrev pub all_passed : Direction → List ℕ → List (List Row) → List ℕ → List ℕ
all_passed direction key [] places = places
all_passed direction key (rows ∷ sources) [] = []
all_passed direction key (rows ∷ sources) (place ∷ places) =
    passed direction key rows place ∷ all_passed direction key sources places

-- the one of the key that comes first, and the first where they tie
abbrev pub sooner : Direction → Option Row → Option Row → Option Row
sooner direction None other = other
sooner direction (Some row) None = Some row
sooner direction (Some row) (Some other) =
    Some (cond (is_lt (direction_cmp direction (target other.change) (target row.change))) other row)

-- the soonest of this row and the next ones of the sources
abbrev pub soonest : Direction → Option Row → List (List Row) → List ℕ → Option Row
soonest direction best [] places = best
soonest direction best (rows ∷ sources) [] = best
soonest direction best (rows ∷ sources) (place ∷ places) =
    soonest direction (sooner direction best (head_from direction place rows)) sources places

-- how many rows are left from a place
abbrev pub left_from : Direction → List Row → ℕ → ℕ
left_from forward rows place = length rows - place
left_from backward rows place = place

abbrev pub all_left : Direction → List (List Row) → List ℕ → ℕ
all_left direction [] places = 0
all_left direction (rows ∷ sources) [] = 0
all_left direction (rows ∷ sources) (place ∷ places) = left_from direction rows place + all_left direction sources places

-- a row that comes next from one of these places
abbrev pub IsHead : Direction → List (List Row) → List ℕ → ℕ → Row → Type 0
IsHead direction [] places at row = ⊥
IsHead direction (rows ∷ sources) [] at row = ⊥
IsHead direction (rows ∷ sources) (place ∷ places) zero row = head_from direction place rows ≡ Some row
IsHead direction (rows ∷ sources) (place ∷ places) (suc at) row = IsHead direction sources places at row

-- the place of a position in each source
abbrev pub places_by : Direction → Position → List (List Row) → List ℕ
places_by direction position sources = map (place_by direction position) sources

-- other places, as far as there are sources
abbrev pub all_placed : (List Row → ℕ) → List (List Row) → List ℕ → List ℕ
all_placed place [] places = places
all_placed place (rows ∷ sources) [] = []
all_placed place (rows ∷ sources) (old ∷ places) = place rows ∷ all_placed place sources places
