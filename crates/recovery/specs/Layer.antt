-- The active layer that the entries of a log make, and the greatest store id that they name.
use Rattle.std.specs.Prelude.{◌≡◌, ℕ, ◌≤◌, List, [], ◌∷◌, map}
use Rattle.std.specs.List.{AllByRecursion}
use Rattle.std.specs.List.Sorted.{IsStrictlySortedBy}
use Rattle.hse_fields.specs.LogText.{Entry}
use Rattle.hse_rows.specs.declared.write.Write.{Write}
use Rattle.hse_rows.specs.writes.NormalForm.{write_cmp}
use Rattle.ingest_tree.specs.declared.store_row.StoreRow.{StoreRow}
use Rattle.view.specs.Commits.{with_writes}
use Rattle.wal.specs.Stores.{OfEachStore}
use Rattle.recovery.specs.Stored.{write_in}

-- the writes of an entry, in order
abbrev pub writes_of : Entry → List Write
writes_of entry = map write_in entry.changes

-- a layer with a row for each write of an entry
abbrev pub layer_with : List StoreRow → Entry → List StoreRow
layer_with layer entry = with_writes entry.number layer (writes_of entry)

-- and of more entries, one after another
abbrev pub layer_after : List StoreRow → List Entry → List StoreRow
layer_after layer [] = layer
layer_after layer (entry ∷ entries) = layer_after (layer_with layer entry) entries

-- the writes stand in the order of a normal form
abbrev pub IsOrderly : Entry → Type 0
IsOrderly entry = IsStrictlySortedBy write_cmp (writes_of entry)

-- The layer is what the entries make of an empty one.
pub record IsLayerOf (entries : List Entry) (layer : List StoreRow) : Type 0 where
  pub rows : layer ≡ layer_after [] entries
  pub orderly : AllByRecursion IsOrderly entries

-- of a number and the store ids of writes the greatest
pub record IsGreatestOf (number : ℕ) (writes : List Write) (greatest : ℕ) : Type 0 where
  pub grows : number ≤ greatest
  pub above : AllByRecursion (λ (w : Write). w.store.0 ≤ greatest) writes
  pub least : (bound : ℕ) → number ≤ bound → AllByRecursion (λ (w : Write). w.store.0 ≤ bound) writes → greatest ≤ bound

-- the greatest store id that a change of the entries names, or 0 where none does
pub record IsGreatestNamed (entries : List Entry) (named : ℕ) : Type 0 where
  pub above : OfEachStore (λ (store : ℕ). store ≤ named) entries
  pub least : (bound : ℕ) → OfEachStore (λ (store : ℕ). store ≤ bound) entries → named ≤ bound
