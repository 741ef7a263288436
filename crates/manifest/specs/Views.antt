-- The types of this crate, as contracts see them.
use Rattle.std.specs.Prelude.{◌≡◌, ℕ, List, map, Result, Ok, Err}
use Rattle.hse_rows.specs.declared.store.Mode.{Mode}
use Rattle.hse_rows.specs.machine.TakenRuns.{runs_as}
use Rattle.manifest.specs.Text.{described_text}
use Rattle.manifest.specs.Metadata.{LiveStore, Metadata}
use Rattle.manifest.specs.declared.base.Base.{Base}
use Rattle.manifest.specs.declared.base.BaseStore.{BaseStore}
use Rattle.hse_fields.specs.declared.refusal.Refusal.{Refusal}
use Rattle.hse_fields.specs.declared.refusal.Refusal.TheVariants.{Left, NoMemory}

abbrev pub store_as : BaseStore → LiveStore
store_as store =
    record { id = store.id.0; name = store.name; mode = store.mode; prefix_length = store.prefix }

abbrev pub stores_as : List BaseStore → List LiveStore
stores_as stores = map store_as stores

abbrev pub metadata_as : Base → Metadata
metadata_as base = record {
  horizon = base.horizon;
  first_segment = base.first;
  taken = runs_as base.taken.items;
  stores = stores_as base.stores.items;
}

-- the text of a store but for its id
abbrev pub described_as : List ℕ → Mode → ℕ → List ℕ
described_as name mode prefix =
    described_text (record { id = 0; name = name; mode = mode; prefix_length = prefix })

-- What the readers of this crate give is what reading gives on lists, unless it is out of memory.
abbrev pub Fails : {Y : Type 0} → Refusal → Result Y ℕ → Type 0
Fails (Left left) read = read ≡ Err left
Fails NoMemory read = Unit {0}

abbrev pub Gives : {X Y : Type 0} → (X → Y) → Result X Refusal → Result Y ℕ → Type 0
Gives view (Ok x) read = read ≡ Ok (view x)
Gives view (Err refusal) read = Fails refusal read
