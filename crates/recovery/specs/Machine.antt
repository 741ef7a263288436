-- What is loaded of an image, as the machine has what a device stores.
use Rattle.std.specs.Prelude.{ℕ, ◌+◌, List, [], map}
use Rattle.hse_fields.specs.LogText.{Entry}
use Rattle.hse_rows.specs.machine.Log.{Numbered, LogState}
use Rattle.hse_rows.specs.machine.ManifestRoom.{ManifestState}
use Rattle.hse_rows.specs.machine.Core.{Stored}
use Rattle.hse_rows.specs.machine.TakenRuns.{numbers_of}
use Rattle.device_layout.specs.Layouts.{params_of, sizes_of}
use Rattle.recovery.specs.Image.{Loaded}
use Rattle.recovery.specs.Stored.{write_in, state_of}

-- an entry of the log, as a commit with its number
abbrev pub numbered_of : Entry → Numbered
numbered_of entry = record { number = entry.number; writes = map write_in entry.changes }

-- No layer is frozen: the one segment is the active layer's.
abbrev pub log_of : Loaded → LogState
log_of loaded = record {
  horizon = loaded.metadata.horizon;
  first_segment = loaded.metadata.first_segment;
  frozen = [];
  active = map numbered_of loaded.log.entries;
}

-- the bytes that the half in force uses end with its closed gate
abbrev pub manifest_of : Loaded → ManifestState
manifest_of loaded = record {
  sequence = loaded.sequence;
  used = loaded.place + 1;
  taken = numbers_of loaded.metadata.taken;
}

-- No set is loaded.
abbrev pub stored_of : Loaded → Stored
stored_of loaded = record {
  sizes = sizes_of (params_of loaded.layout);
  base = state_of loaded;
  log = log_of loaded;
  manifest = manifest_of loaded;
  layout = [];
}
