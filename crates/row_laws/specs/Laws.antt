-- Laws of the meaning of rows, each the clause of a function of `src/laws.rt`.
use Rattle.std.specs.Prelude.{◌≡◌, ℕ, Bool, List, ◌++◌, Option}
use Rattle.std.specs.FinMap as fin_map
use Rattle.hse_rows.specs.declared.row.Row.{Row}
use Rattle.hse_rows.specs.rows.Meaning.{contents_of, contents_after_rows, with_row, own_at, covered_at, said, value_said}
use Rattle.hse_rows.specs.states.State.{changed}
use Rattle.std.specs.List.Sorted.{IsStrictlySortedBy}
use Rattle.row_laws.specs.Parts.{RowPart, rows_on, rows_in, StandsOnPath}
use Rattle.row_laws.specs.Merging.{key_rows, pairs_of, next_by, AreOncePerNumber}
use Rattle.hse_rows.specs.script.Cursor.{forward}
use Rattle.row_laws.specs.Next.{position_of, is_from, lasting_at, value_left, IsFirstRow, OwnFalls}
use Rattle.hse_rows.specs.rows.Newest.{newest, row_cmp}
use Rattle.row_laws.specs.Step.{AppliesLast, AreAgreed, IsInOrder}
use Rattle.row_laws.specs.Sources.{all_rows, Falls, AreLayersOver, first_said}

-- A key has the value of its own newest row, unless a covering prefix delete has a greater number.
abbrev pub KeysHoldNewestRows : Type 0
KeysHoldNewestRows =
    (rows : List Row) (key : List ℕ)
    → fin_map.get (contents_of rows) key ≡ value_said (said (own_at key rows) (covered_at key rows))

-- Where numbers fall from source to source, the first source that says something of a key says its value.
abbrev pub FirstSourcesDecide : Type 0
FirstSourcesDecide =
    (sources : List (List Row)) (key : List ℕ) → Falls key sources
    → fin_map.get (contents_of (all_rows sources)) key ≡ value_said (first_said key sources)

-- A row that applies last, in place of the older one of its key or prefix, changes the contents by its change.
abbrev pub RowsChangeContents : Type 0
RowsChangeContents =
    (rows : List Row) (row : Row) → AppliesLast rows row
    → contents_of (with_row rows row) ≡ changed (contents_of rows) row.change

-- The newest rows mean what the rows mean, whatever stands before and behind them.
abbrev pub NewestRowsMeanTheSame : Type 0
NewestRowsMeanTheSame =
    (before rows behind : List Row) → AreAgreed rows
    → contents_of (before ++ newest rows ++ behind) ≡ contents_of (before ++ rows ++ behind)

-- Rows in the order in which they apply mean empty contents after them, one after another.
abbrev pub RowsInOrderApply : Type 0
RowsInOrderApply = (rows : List Row) → IsInOrder rows → contents_of rows ≡ contents_after_rows fin_map.empty rows

-- Layers whose rows are newer than all behind them keep the numbers falling.
abbrev pub LayersFall : Type 0
LayersFall =
    (layers sets : List (List Row)) (key : List ℕ) → AreLayersOver (all_rows sets) layers → Falls key sets
    → Falls key (layers ++ sets)

-- The entries of the contents are the pairs of the merged rows, in order, and each key stands once.
abbrev pub MergedRowsAreEntries : Type 0
MergedRowsAreEntries =
    (rows : List Row) → AreOncePerNumber rows
    → IsStrictlySortedBy row_cmp (key_rows rows) × (fin_map.entries (contents_of rows) ≡ pairs_of (key_rows rows))

-- The rows on a key's path say its value.
abbrev pub PathsDecide : Type 0
PathsDecide =
    (parts : List RowPart) (key : List ℕ) → StandsOnPath key parts
    → fin_map.get (contents_of (rows_in parts)) key ≡ fin_map.get (contents_of (rows_on parts)) key

-- The lasting row of the least key from an edge on is the first of what is left of the merged rows there.
abbrev pub NextRowsAreFirst : Type 0
NextRowsAreFirst =
    (rows : List Row) (past : Bool) (edge : List ℕ) (found : Option Row) → AreOncePerNumber rows
    → IsFirstRow (lasting_at rows) (is_from past edge) found → found ≡ next_by forward (position_of past edge) rows

-- What a key holds in the contents is what its lasting row leaves.
abbrev pub LastingRowsLeaveValues : Type 0
LastingRowsLeaveValues =
    (rows : List Row) (key : List ℕ) → fin_map.get (contents_of rows) key ≡ value_left (lasting_at rows key)

-- Where the numbers of all rows that reach a key fall, those of its own rows do.
abbrev pub FallingRowsFallAlone : Type 0
FallingRowsFallAlone = (sources : List (List Row)) (key : List ℕ) → Falls key sources → OwnFalls key sources

-- The merged rows hold of each key its lasting row.
abbrev pub MergedRowsHoldLastingRows : Type 0
MergedRowsHoldLastingRows =
    (rows : List Row) (key : List ℕ) → AreOncePerNumber rows → own_at key (key_rows rows) ≡ lasting_at rows key
