-- A merge goes on from a position, and what a step of it gives.
use Rattle.std.specs.Prelude.{◌≡◌, ℕ, zero, suc, List, [], ◌∷◌, slice_get, Option, Some, None}
use Rattle.hse_rows.specs.declared.row.Row.{Row}
use Rattle.hse_rows.specs.writes.Change.{target}
use Rattle.hse_rows.specs.script.Cursor.{Direction, Position, past_key, is_reached}
use Rattle.row_laws.specs.Sources.{all_rows}
use Rattle.row_laws.specs.Next.{lasting_at, IsPast}
use Rattle.merge.specs.Places.{places_by}
use Rattle.merge.specs.First.{IsFirstIn}

-- From these places a merge gives what is left from a position: they are those of a position behind which no key between
-- the two has a row that lasts.
pub record GoesOn (direction : Direction) (position : Position) (sources : List (List Row)) (places : List ℕ) : Type 0 where
  pub now : Position
  pub at : places ≡ places_by direction now sources
  pub past : IsPast (lasting_at (all_rows sources)) (is_reached direction position) (is_reached direction now)

-- these are the places of a position
pub record AreAt (direction : Direction) (sources : List (List Row)) (places : List ℕ) : Type 0 where
  pub now : Position
  pub at : places ≡ places_by direction now sources

-- the row at a place of a source, counted from 0
abbrev pub IsRowAt : List (List Row) → ℕ → ℕ → Row → Type 0
IsRowAt [] source at row = ⊥
IsRowAt (rows ∷ sources) zero at row = slice_get rows at ≡ Some row
IsRowAt (rows ∷ sources) (suc source) at row = IsRowAt sources source at row

-- the row of the first key at or past a position that has one, and from where the merge goes on
pub record Steps (direction : Direction) (position : Position) (sources : List (List Row)) (source at : ℕ) (places : List ℕ) : Type 0 where
  pub row : Row
  pub there : IsRowAt sources source at row
  pub first : IsFirstIn direction (lasting_at (all_rows sources)) (is_reached direction position) (Some row)
  pub goes : GoesOn direction (past_key (target row.change)) sources places

abbrev pub Given : Direction → Position → List (List Row) → Option (ℕ × ℕ) → List ℕ → Type 0
Given direction position sources None places =
    IsFirstIn direction (lasting_at (all_rows sources)) (is_reached direction position) None × GoesOn direction position sources places
Given direction position sources (Some place) places = Steps direction position sources place.0 place.1 places
