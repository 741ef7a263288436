-- The state that a formed image stores: its live stores, with what its log's entries leave in them.
use Rattle.std.specs.Prelude.{◌≡◌, ℕ, List, map, flat_map}
use Rattle.std.specs.FinMap as fin_map
use Rattle.hse_fields.specs.LogText.{Entry, Kind, put, del, pdel}
use Rattle.hse_fields.specs.LogText as log
use Rattle.hse_rows.specs.declared.change.Change.{Change}
use Rattle.hse_rows.specs.declared.change.Change.TheVariants.{Put, Del, PDel}
use Rattle.hse_rows.specs.declared.write.Write.{Write}
use Rattle.hse_rows.specs.states.State.{Store, State, contents_after_all}
use Rattle.hse_rows.specs.writes.Change.{write_of}
use Rattle.manifest.specs.Metadata.{LiveStore}
use Rattle.recovery.specs.Image.{Loaded, IsLoaded, number_of}

-- the change that the log spells of this kind, name and value
abbrev pub change_by : Kind → List ℕ → List ℕ → Change
change_by put name value = Put name value
change_by del name value = Del name
change_by pdel name value = PDel name

abbrev pub write_in : log.Change → Write
write_in change = write_of (record { 0 = change.store }) (change_by change.kind change.name change.value)

-- the writes of entries, in order: of one entry its prefix deletes first
abbrev pub writes_in : List Entry → List Write
writes_in entries = flat_map (λ (entry : Entry). map write_in entry.changes) entries

-- a store with what the entries leave in it
abbrev pub store_in : List Entry → LiveStore → Store
store_in entries store = record {
  id = store.id;
  name = store.name;
  mode = store.mode;
  prefix_length = store.prefix_length;
  contents = contents_after_all store.id fin_map.empty (writes_in entries);
}

abbrev pub state_of : Loaded → State
state_of loaded = record {
  number = number_of loaded.metadata loaded.log;
  stores = map (store_in loaded.log.entries) loaded.metadata.stores;
}

-- The image is formed and stores this state.
pub record Stores (image : List ℕ) (state : State) : Type 0 where
  pub loaded : Loaded
  pub is : IsLoaded image loaded
  pub state_is : state ≡ state_of loaded
