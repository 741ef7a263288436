-- What a merge is to its callers.
use Rattle.std.specs.Prelude.{◌≡◌, ℕ, List, Option, Some, None}
use Rattle.hse_rows.specs.declared.row.Row.{Row}
use Rattle.hse_rows.specs.writes.Change.{target}
use Rattle.hse_rows.specs.script.Cursor.{Direction, Position, past_key, is_reached}
use Rattle.row_laws.specs.Sources.{all_rows}
use Rattle.row_laws.specs.Merging.{next_by}
use Rattle.row_laws.specs.Next.{OwnFalls, lasting_at}
use Rattle.merge.specs.First.{IsFirstIn}
use Rattle.merge.specs.Places.{all_left}
use Rattle.merge.specs.Steps.{AreAt, GoesOn, IsRowAt}

-- the sources' rows, nearest source first, the direction, the place in each source, and where the row that was given last
-- stands: its source, counted from 0, and its place there
pub record MergeState : Type 0 where
  pub sources : List (List Row)
  pub direction : Direction
  pub places : List ℕ
  pub last : Option (ℕ × ℕ)

-- From source to source the numbers of each key's rows fall, and the places are those of a position.
pub record IsMerge (m : MergeState) : Type 0 where
  pub falls : (key : List ℕ) → OwnFalls key m.sources
  pub stands : AreAt m.direction m.sources m.places

-- the row that stands at a place, where there is one
abbrev pub StandsAt : List (List Row) → Option (ℕ × ℕ) → Option Row → Type 0
StandsAt sources None None = Unit {0}
StandsAt sources None (Some row) = ⊥
StandsAt sources (Some place) None = ⊥
StandsAt sources (Some place) (Some row) = IsRowAt sources place.0 place.1 row

-- where a merge goes on behind a row, and where there was none
abbrev pub position_after : Position → Option Row → Position
position_after position None = position
position_after position (Some row) = past_key (target row.change)

abbrev pub last_after : Option (ℕ × ℕ) → Option (ℕ × ℕ) → Option (ℕ × ℕ)
last_after old None = old
last_after old (Some place) = Some place

-- how many rows are ahead
abbrev pub rows_ahead : MergeState → ℕ
rows_ahead m = all_left m.direction m.sources m.places

-- After a row was given the merge goes on behind it, and where there was none it stays. The last place is the row's.
pub record Goes (old : MergeState) (found : Option Row) (new : MergeState) : Type 0 where
  pub sources : new.sources ≡ old.sources
  pub direction : new.direction ≡ old.direction
  pub goes :
      (position : Position) → GoesOn old.direction position old.sources old.places
      → GoesOn new.direction (position_after position found) new.sources new.places
  pub place : Option (ℕ × ℕ)
  pub there : StandsAt new.sources place found
  pub last : new.last ≡ last_after old.last place

-- From each position that the merge stands at, the next row of the list of merged rows: that of the first key that has a
-- row that lasts.
pub record IsNext (m : MergeState) (found : Option Row) : Type 0 where
  pub next :
      (position : Position) → GoesOn m.direction position m.sources m.places
      → found ≡ next_by m.direction position (all_rows m.sources)
  pub first :
      (position : Position) → GoesOn m.direction position m.sources m.places
      → IsFirstIn m.direction (lasting_at (all_rows m.sources)) (is_reached m.direction position) found
