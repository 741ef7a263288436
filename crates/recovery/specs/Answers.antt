-- What an opening answers.
use Rattle.std.specs.Prelude.{◌≡◌, ℕ, ◌+◌, ◌-◌, ◌^◌, ◌<◌, ◌≤◌, List, [], Result, Ok, Err}
use Rattle.std.specs.List.{AllByRecursion}
use Rattle.hse_io.specs.Faults.{Rose}
use Rattle.media_disk.specs.declared.device.Device.{Ghosts}
use Rattle.device_layout.specs.Layouts.{IsGood}
use Rattle.device_layout.specs.declared.layout.Layout.{Layout}
use Rattle.manifest.specs.Metadata.{Metadata}
use Rattle.manifest.specs.Views.{metadata_as}
use Rattle.manifest.specs.declared.manifest.Manifest.{Manifest}
use Rattle.ingest_tree.specs.declared.store_row.StoreRow.{StoreRow}
use Rattle.kvset.specs.Parts.{contents_rows}
use Rattle.kvset.specs.Reading.{Contents}
use Rattle.view.specs.Means as meaning
use Rattle.wal.specs.Charges.{charges}
use Rattle.wal.specs.declared.ring.Ring.{Ring}
use Rattle.recovery.specs.Image.{Loaded, Log, HasLayout, HasLog, IsLoaded, log_region, number_of}
use Rattle.recovery.specs.Layer.{IsGreatestNamed, IsLayerOf, layer_after}
use Rattle.recovery.specs.Opened.{opened_view}
use Rattle.recovery.specs.Stored.{state_of}
use Rattle.recovery.specs.Refused.{IsNotFormed, IsOtherVersion, IsSuperRefused, IsUnread}
use Rattle.recovery.specs.declared.fault.OpenFault.{OpenFault}
use Rattle.recovery.specs.declared.fault.OpenFault.TheVariants.{NotFormed, Version, Device, NoMemory}
use Rattle.recovery.specs.declared.logs.ReadLog.{ReadLog}
use Rattle.recovery.specs.declared.recovered.Recovered.{Recovered}
use Rattle.recovery.specs.declared.region.Region.TheVariants.{Super, Log as LogSegment}

-- ---- by parts

-- The superblock says this layout, or is refused, or says another version.
abbrev pub IsLayoutRead : List ℕ → Result Layout OpenFault → Type 0
IsLayoutRead image (Ok layout) = HasLayout image layout
IsLayoutRead image (Err (NotFormed region place)) = (region ≡ Super) × IsSuperRefused image place
IsLayoutRead image (Err (Version version)) = IsOtherVersion image version
IsLayoutRead image (Err Device) = Unit {0}
IsLayoutRead image (Err NoMemory) = Unit {0}

-- What was read of a log is this: how it ends, its active layer, and the greatest store id that it names.
pub record ReadsLog (log : Log) (read : ReadLog) : Type 0 where
  pub next : read.end.next ≡ log.next
  pub place : read.end.tail.place ≡ log.place
  pub charges : read.end.charges ≡ charges log.entries
  pub rows : IsLayerOf log.entries read.rows
  pub named : IsGreatestNamed log.entries read.named

-- The log is what was read, or does not count, or its text is refused.
abbrev pub IsLogRead : Layout → List ℕ → Metadata → Result ReadLog OpenFault → Type 0
IsLogRead layout image m (Ok read) = (log : Log) × HasLog layout image m log × ReadsLog log read
IsLogRead layout image m (Err (NotFormed region place)) =
    (region ≡ LogSegment 1) × IsUnread layout image m place
IsLogRead layout image m (Err (Version version)) = ⊥
IsLogRead layout image m (Err Device) = Unit {0}
IsLogRead layout image m (Err NoMemory) = Unit {0}

-- What was read of a log of this size is sound, whatever the device tells.
pub record IsSoundLog (size : ℕ) (read : ReadLog) : Type 0 where
  -- the next number is above those of all rows
  pub newer : AllByRecursion (λ (row : StoreRow). row.row.number < read.end.next) read.rows
  pub small : read.end.next ≤ 2 ^ 62 + 1
  pub sequence : read.end.sequence ≡ 1
  pub fits : read.end.charges ≤ size - 64
  pub placed : read.end.tail.place ≤ 9 + read.end.charges
  pub inside : read.end.tail.place < size

-- ---- whole

-- where the manifest stands
pub record StandsAt (loaded : Loaded) (manifest : Manifest) : Type 0 where
  pub layout : manifest.layout ≡ loaded.layout
  pub half : manifest.half ≡ loaded.half
  pub sequence : manifest.sequence ≡ loaded.sequence
  pub place : manifest.tail.place ≡ loaded.place

-- where the log is
pub record IsLogAt (loaded : Loaded) (ring : Ring) : Type 0 where
  pub region : ring.region ≡ log_region loaded.layout
  pub sequence : ring.sequence ≡ 1
  pub place : ring.tail.place ≡ loaded.log.place
  pub charges : ring.charges ≡ charges loaded.log.entries

-- What was recovered is what is loaded, with its last number, and its view means the state that the image stores.
pub record Finds (loaded : Loaded) (r : Recovered) : Type 0 where
  pub layout : r.layout ≡ loaded.layout
  pub manifest : StandsAt loaded r.manifest
  pub metadata : metadata_as r.base ≡ loaded.metadata
  pub log : IsLogAt loaded r.log
  pub number : r.number ≡ number_of loaded.metadata loaded.log
  pub view : r.view ≡ opened_view Contents r.number loaded.metadata.stores (layer_after [] loaded.log.entries)
  pub state : meaning.state_of contents_rows r.view ≡ state_of loaded

-- Its parts are those of its layout, whatever the device tells, and no number is above the greatest one.
pub record HasParts (r : Recovered) : Type 0 where
  pub good : IsGood r.layout
  pub manifest : r.manifest.layout ≡ r.layout
  pub region : r.log.region ≡ log_region r.layout
  pub small : r.number ≤ 2 ^ 62
  pub number : r.view.number ≡ r.number

-- The answer is what is loaded of the image, or where the image is refused, or its version.
abbrev pub IsRecovery : List ℕ → Result Recovered OpenFault → Type 0
IsRecovery image (Ok r) = (loaded : Loaded) × IsLoaded image loaded × Finds loaded r
IsRecovery image (Err (NotFormed region place)) = IsNotFormed image region place
IsRecovery image (Err (Version version)) = IsOtherVersion image version
IsRecovery image (Err Device) = Unit {0}
IsRecovery image (Err NoMemory) = Unit {0}

-- the device failed exactly where the answer says so
abbrev pub OpenReports : {D T : Type 0} → Ghosts D → D → D → Result T OpenFault → Type 0
OpenReports g old new (Ok value) = g.faults new ≡ g.faults old
OpenReports g old new (Err (NotFormed region place)) = g.faults new ≡ g.faults old
OpenReports g old new (Err (Version version)) = g.faults new ≡ g.faults old
OpenReports g old new (Err NoMemory) = g.faults new ≡ g.faults old
OpenReports g old new (Err Device) = Rose (g.faults old) (g.faults new)

-- no fault of the device
abbrev pub IsQuiet : {T : Type 0} → Result T OpenFault → Type 0
IsQuiet (Ok value) = Unit {0}
IsQuiet (Err (NotFormed region place)) = Unit {0}
IsQuiet (Err (Version version)) = Unit {0}
IsQuiet (Err NoMemory) = Unit {0}
IsQuiet (Err Device) = ⊥
