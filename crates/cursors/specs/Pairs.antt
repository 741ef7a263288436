-- Where the next pair of a cursor stands in a merge of its sources.
use Rattle.std.specs.Prelude.{◌≡◌, ℕ, Bool, true, false, ◌&&◌, List, Option, Some, None}
use Rattle.std.specs.Ordering.{is_ge}
use Rattle.std.specs.FinMap as fin_map
use Rattle.hse_rows.specs.declared.row.Row.{Row}
use Rattle.hse_rows.specs.writes.Change.{covers, target}
use Rattle.hse_rows.specs.writes.Reach.{leaves}
use Rattle.hse_rows.specs.rows.Newest.{is_put}
use Rattle.hse_rows.specs.rows.Meaning.{contents_of}
use Rattle.hse_rows.specs.script.Cursor.{CursorState, Direction, Position, Pair, direction_cmp, is_reached, is_in_range, moved, read_by}
use Rattle.row_laws.specs.Sources.{all_rows}
use Rattle.merge.specs.Merge.{MergeState}
use Rattle.merge.specs.Places.{places_by}
use Rattle.merge.specs.Steps.{GoesOn}
use Rattle.cursors.specs.Cursors.{IsPairAt}
use Rattle.cursors.specs.declared.kind.Kind.{Kind}
use Rattle.cursors.specs.declared.kind.Kind.TheVariants as kind

-- a key that begins with a prefix and is not greater than a last key
abbrev pub is_asked : List ℕ → Option (List ℕ) → List ℕ → Bool
is_asked prefix last key = covers prefix key && is_in_range last key

-- From a position the same pairs are left that the cursor asks for as from its own.
abbrev pub LeavesSame : CursorState → Position → Type 0
LeavesSame cursor now =
    (key value : List ℕ) → fin_map.get cursor.contents key ≡ Some value → is_asked cursor.prefix cursor.last key ≡ true
    → is_reached cursor.direction now key ≡ is_reached cursor.direction cursor.position key

-- the merge goes on to the pairs that are left
pub record IsAhead (cursor : CursorState) (m : MergeState) : Type 0 where
  pub contents : cursor.contents ≡ contents_of (all_rows m.sources)
  pub direction : m.direction ≡ cursor.direction
  pub now : Position
  pub goes : GoesOn cursor.direction now m.sources m.places
  pub left : LeavesSame cursor now

-- the next pair, and the merge is behind it
pub record IsNextAt (cursor : CursorState) (m : MergeState) (source at : ℕ) : Type 0 where
  pub pair : Pair
  pub there : IsPairAt m.sources source at pair
  pub reads : read_by cursor ≡ Some pair
  pub ahead : IsAhead (moved cursor (Some pair)) m

abbrev pub IsNextPair : CursorState → MergeState → Option (ℕ × ℕ) → Type 0
IsNextPair cursor m None = read_by cursor ≡ None
IsNextPair cursor m (Some place) = IsNextAt cursor m place.0 place.1

-- no key that stands there or behind in the direction is asked for
abbrev pub IsEnd : Direction → List ℕ → Option (List ℕ) → List ℕ → Type 0
IsEnd direction prefix last end =
    (key : List ℕ) → is_ge (direction_cmp direction key end) ≡ true → is_asked prefix last key ≡ false

-- what a row is to a cursor
abbrev pub IsKind : Direction → List ℕ → Option (List ℕ) → Row → Kind → Type 0
IsKind direction prefix last row kind.Pair =
    (is_put row.change ≡ true) × (is_asked prefix last (target row.change) ≡ true)
IsKind direction prefix last row kind.Gap = is_asked prefix last (target row.change) ≡ true → leaves row.change ≡ None
IsKind direction prefix last row kind.End = IsEnd direction prefix last (target row.change)

-- From these places the merge goes on as from a position.
pub record IsBrought (direction : Direction) (position : Position) (sources : List (List Row)) (m : MergeState) : Type 0 where
  pub same_sources : m.sources ≡ sources
  pub same_direction : m.direction ≡ direction
  pub now : Position
  pub at : m.places ≡ places_by direction now sources
  pub reaches : (key : List ℕ) → is_reached direction now key ≡ is_reached direction position key
