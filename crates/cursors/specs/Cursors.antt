-- What a cursor is to its callers: the rows of its sources in place of its contents, and no owner.
use Rattle.std.specs.Prelude.{◌≡◌, ℕ, ◌<◌, ◌==◌, List, Option, Some, None}
use Rattle.std.specs.List.{AllByRecursion, find}
use Rattle.hse_rows.specs.declared.row.Row.{Row}
use Rattle.hse_rows.specs.declared.change.Change.TheVariants.{Put}
use Rattle.hse_rows.specs.writes.NormalForm.{same}
use Rattle.hse_rows.specs.rows.Meaning.{contents_of}
use Rattle.hse_rows.specs.states.State.{Contents}
use Rattle.hse_rows.specs.script.Cursor.{CursorState, Direction, Position, Pair, forward, backward, front, past_key, read_by, sought_range, updated}
use Rattle.row_laws.specs.Sources.{all_rows}
use Rattle.ingest_tree.specs.declared.store_row.StoreRow.{StoreRow}
use Rattle.view.specs.declared.view_store.ViewStore.{ViewStore}
use Rattle.view.specs.Views.{ViewState, layers_with}
use Rattle.view.specs.Means.{store_rows}
use Rattle.merge.specs.Steps.{IsRowAt}
use Rattle.cursors.specs.declared.faults.CursorFault.{CursorFault}
use Rattle.cursors.specs.declared.faults.CursorFault.TheVariants.{NoStore, NoMemory}

pub record CursorKept : Type 0 where
  pub store : ℕ
  pub direction : Direction
  -- what its keys begin with
  pub prefix : List ℕ
  -- the rows of its sources, nearest source first
  pub sources : List (List Row)
  pub position : Position
  pub last : Option (List ℕ)

-- the cursor that it means
abbrev pub meant : CursorKept → CursorState
meant kept = record {
  owner = None;
  store = kept.store;
  direction = kept.direction;
  prefix = kept.prefix;
  contents = contents_of (all_rows kept.sources);
  position = kept.position;
  last = kept.last;
}

-- a new cursor over contents
abbrev pub opened : ℕ → Direction → List ℕ → Contents → CursorState
opened store direction prefix contents = record {
  owner = None;
  store = store;
  direction = direction;
  prefix = prefix;
  contents = contents;
  position = front;
  last = None;
}

abbrev pub with_position : CursorKept → Position → Option (List ℕ) → CursorKept
with_position kept position last = record {
  store = kept.store;
  direction = kept.direction;
  prefix = kept.prefix;
  sources = kept.sources;
  position = position;
  last = last;
}

-- own writes of a transaction are newer than its view
abbrev pub AreNewer : {R : Type 0} → ViewState R → Option (List StoreRow) → Type 0
AreNewer view None = Unit {0}
AreNewer view (Some own) = AllByRecursion (λ (row : StoreRow). view.number < row.row.number) own

-- a pair that a row puts, at a place of a source
pub record IsPairAt (sources : List (List Row)) (source at : ℕ) (pair : Pair) : Type 0 where
  pub row : Row
  pub there : IsRowAt sources source at row
  pub puts : row.change ≡ Put pair.0 pair.1

-- what a cursor reads, at its place, and what it is after that
pub record IsReadAt (old : CursorKept) (source at : ℕ) (new : CursorKept) : Type 0 where
  pub pair : Pair
  pub there : IsPairAt new.sources source at pair
  pub reads : read_by (meant old) ≡ Some pair
  pub new_is : new ≡ with_position old (past_key pair.0) old.last

abbrev pub IsRead : CursorKept → Option (ℕ × ℕ) → CursorKept → Type 0
IsRead old None new = (read_by (meant old) ≡ None) × (new ≡ old)
IsRead old (Some place) new = IsReadAt old place.0 place.1 new

abbrev pub ranged_by : Direction → CursorState → List ℕ → List ℕ → CursorState
ranged_by forward cursor first last = sought_range cursor first last
ranged_by backward cursor first last = cursor

-- A range is sought going up alone.
abbrev pub ranged : CursorState → List ℕ → List ℕ → CursorState
ranged cursor first last = ranged_by cursor.direction cursor first last

-- a cursor that was opened over the store of a name in a view, with own writes in front
pub record IsOpened {R : Type 0} (rows : R → List Row) (view : ViewState R) (own : Option (List StoreRow)) (name : List ℕ) (direction : Direction) (prefix : List ℕ) (cursor : CursorKept) : Type 0 where
  pub store : ViewStore R
  pub named : find (λ (s : ViewStore R). same s.name name) view.stores ≡ Some store
  pub meant_is : meant cursor ≡ opened store.id.0 direction prefix (contents_of (store_rows rows (layers_with own view.layers) store))

-- when none is opened, by its fault: want of memory may come at any time
abbrev pub RefusesOpening : {R : Type 0} → ViewState R → List ℕ → CursorFault → Type 0
RefusesOpening view name NoStore = find (λ s. same s.name name) view.stores ≡ None
RefusesOpening view name NoMemory = Unit {0}

-- The store of the cursor's id in a view, with own writes in front, gives its contents; the rest stays.
pub record IsUpdated {R : Type 0} (rows : R → List Row) (view : ViewState R) (own : Option (List StoreRow)) (old new : CursorKept) : Type 0 where
  pub store : ViewStore R
  pub found : find (λ (s : ViewStore R). s.id.0 == old.store) view.stores ≡ Some store
  pub meant_is : meant new ≡ updated (meant old) (contents_of (store_rows rows (layers_with own view.layers) store))

-- when none is given another view, by its fault: want of memory may come at any time
abbrev pub RefusesUpdate : {R : Type 0} → ViewState R → ℕ → CursorFault → Type 0
RefusesUpdate view store NoStore = find (λ s. s.id.0 == store) view.stores ≡ None
RefusesUpdate view store NoMemory = Unit {0}
