-- The merged row that stands first at or past a position, going up.
use Rattle.std.specs.Prelude.{◌≡◌, ◌<◌, ℕ, Bool, true, false, ◌&&◌, cond, nat_lt, List, [], ◌∷◌, Option, Some, None}
use Rattle.std.specs.List.{find}
use Rattle.std.specs.declared.cmp.Ordering.TheVariants.{Less}
use Rattle.std.specs.Ordering.{nat_cmp, is_lt}
use Rattle.std.specs.Cmp.Lexicographic.{slice_cmp}
use Rattle.hse_rows.specs.declared.row.Row.{Row}
use Rattle.hse_rows.specs.writes.Change.{target}
use Rattle.hse_rows.specs.writes.Reach.{leaves}
use Rattle.hse_rows.specs.script.Cursor.{Position, at_key, past_key, forward, is_reached}
use Rattle.hse_rows.specs.rows.Meaning.{own_at, covered_at, greater}
use Rattle.row_laws.specs.Sources.{all_rows}
use Rattle.row_laws.specs.Merging.{is_key_row}

-- at an edge, or past it
abbrev pub position_of : Bool → List ℕ → Position
position_of true edge = past_key edge
position_of false edge = at_key edge

-- whether a key stands there or behind
abbrev pub is_from : Bool → List ℕ → List ℕ → Bool
is_from past edge key = is_reached forward (position_of past edge) key

abbrev pub is_row_from : Bool → List ℕ → Row → Bool
is_row_from past edge row = is_key_row row && is_from past edge (target row.change)

abbrev pub lesser_row : Row → Row → Row
lesser_row row other = cond (is_lt (slice_cmp nat_cmp (target other.change) (target row.change))) other row

-- the one of the lesser key, and the first where they tie
abbrev pub lesser : Option Row → Option Row → Option Row
lesser None other = other
lesser (Some row) None = Some row
lesser (Some row) (Some other) = Some (lesser_row row other)

-- the row of the least key from there on, of this one and these sources
abbrev pub least_after : Bool → List ℕ → Option Row → List (List Row) → Option Row
least_after past edge best [] = best
least_after past edge best (rows ∷ farther) = least_after past edge (lesser best (find (is_row_from past edge) rows)) farther

-- the greatest number of a covering prefix delete in any source
abbrev pub covered_in : List ℕ → List (List Row) → Option ℕ
covered_in key [] = None
covered_in key (rows ∷ farther) = greater (covered_at key rows) (covered_in key farther)

-- a key's row, where no newer prefix delete covers it
abbrev pub row_lasting : Option Row → Option ℕ → Option Row
row_lasting None cover = None
row_lasting (Some row) None = Some row
row_lasting (Some row) (Some number) = cond (nat_lt row.number number) None (Some row)

abbrev pub lasting_at : List Row → List ℕ → Option Row
lasting_at rows key = row_lasting (own_at key rows) (covered_at key rows)

-- The row that stands first, of those that each key has, among the keys that are asked for.
abbrev pub IsFirstRow : (List ℕ → Option Row) → (List ℕ → Bool) → Option Row → Type 0
IsFirstRow has asked None = (key : List ℕ) → asked key ≡ true → has key ≡ None
IsFirstRow has asked (Some row) =
    (asked (target row.change) ≡ true) × (has (target row.change) ≡ Some row)
    × ((key : List ℕ) → asked key ≡ true → slice_cmp nat_cmp key (target row.change) ≡ Less → has key ≡ None)

-- From source to source the numbers of a key's own rows fall.
abbrev pub OwnFalls : List ℕ → List (List Row) → Type 0
OwnFalls key [] = Unit {0}
OwnFalls key (rows ∷ farther) =
    ((own other : Row) → own_at key rows ≡ Some own → own_at key (all_rows farther) ≡ Some other → other.number < own.number)
    × OwnFalls key farther

-- Of the keys that were asked for, those that are asked for no more have nothing.
pub record IsPast (has : List ℕ → Option Row) (start now : List ℕ → Bool) : Type 0 where
  pub within : (key : List ℕ) → now key ≡ true → start key ≡ true
  pub gone : (key : List ℕ) → start key ≡ true → now key ≡ false → has key ≡ None

-- what a row leaves, where there is one
abbrev pub value_left : Option Row → Option (List ℕ)
value_left None = None
value_left (Some row) = leaves row.change
