-- The entries that turns write to the manifest.
use Rattle.std.specs.Prelude.{ℕ, nat_lt, Bool, List, Option, Some, None}
use Rattle.std.specs.List.{filter}
use Rattle.hse_rows.specs.declared.store.Mode.{Mode}
use Rattle.hse_rows.specs.states.State.{Store}
use Rattle.hse_rows.specs.machine.Log.{Frozen}
use Rattle.hse_rows.specs.rows.Layout.{Layout, NewSet}
use Rattle.hse_rows.specs.rows.Job.{Work, ingesting, on_run, installed}
use Rattle.hse_rows.specs.machine.ManifestRoom.{ManifestState, batch_bytes, creation_bytes, drop_bytes, ingest_bytes, run_bytes, goes_into_no_half, gained}
use Rattle.hse_rows.specs.machine.Core.{Core, now, oldest, base_need, taken_with, stores_with, stores_but, layout_but}

-- what an entry needs, and the whole state after it, with which another half would start
pub record ManifestEntry : Type 0 where
  pub need : ℕ
  pub taken : List ℕ
  pub stores : List Store
  pub layout : Layout

abbrev pub whole_need : ManifestEntry → ℕ
whole_need entry = base_need entry.taken entry.stores entry.layout

-- neither the half in force nor another has room
abbrev pub has_no_room : Core → ManifestEntry → Bool
has_no_room m entry = goes_into_no_half m.sizes.half_size m.manifest entry.need (whole_need entry)

-- the manifest after it
abbrev pub entered : Core → ManifestEntry → ManifestState
entered m entry = gained m.sizes.half_size m.manifest entry.need (whole_need entry) entry.taken

-- a creation, as the next event
abbrev pub creation_entry : Core → List ℕ → Mode → ℕ → ManifestEntry
creation_entry m name mode prefix_length = record {
  need = batch_bytes (creation_bytes name);
  taken = taken_with m;
  stores = stores_with m name mode prefix_length;
  layout = m.layout;
}

-- a drop, as the next event
abbrev pub drop_entry : Core → Store → ManifestEntry
drop_entry m store = record {
  need = batch_bytes drop_bytes;
  taken = taken_with m;
  stores = stores_but m store;
  layout = layout_but m.layout store.id;
}

-- the taken numbers above the horizon, once the oldest layer leaves
abbrev pub taken_above : Option Frozen → List ℕ → List ℕ
taken_above None taken = taken
taken_above (Some layer) taken = filter (λ number. nat_lt layer.last number) taken

-- an install
abbrev pub install_entry : Core → Work → List NewSet → ManifestEntry
install_entry m ingesting sets = record {
  need = batch_bytes (ingest_bytes sets);
  taken = taken_above (oldest m.log.frozen) m.manifest.taken;
  stores = (now m).stores;
  layout = installed m.layout ingesting sets;
}
install_entry m (on_run run) sets = record {
  need = batch_bytes (run_bytes run.path sets);
  taken = m.manifest.taken;
  stores = (now m).stores;
  layout = installed m.layout (on_run run) sets;
}
