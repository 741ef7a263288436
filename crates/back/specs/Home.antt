-- When the device side is at home on a device.
use Rattle.std.specs.Prelude.{◌≡◌, []}
use Rattle.media_disk.specs.declared.device.Device.{Ghosts}
use Rattle.device_layout.specs.declared.layout.Layout.{Layout}
use Rattle.manifest.specs.declared.manifest.Manifest.{Manifest}
use Rattle.recovery.specs.Image.{Loaded, IsLoaded, log_region}
use Rattle.wal.specs.Charges.{charges}
use Rattle.wal.specs.declared.ring.Ring.{Ring}
use Rattle.back.specs.Bases.{AreCounted}

-- These are the places of what is loaded: its layout, its log with what its commits take, and its manifest.
pub record IsHome (layout : Layout) (log : Ring) (manifest : Manifest) (loaded : Loaded) : Type 0 where
  pub layout_is : layout ≡ loaded.layout
  pub region_is : log.region ≡ log_region loaded.layout
  pub log_sequence : log.sequence ≡ 1
  pub log_place : log.tail.place ≡ loaded.log.place
  pub charged : log.charges ≡ charges loaded.log.entries
  pub manifest_layout : manifest.layout ≡ loaded.layout
  pub half : manifest.half ≡ loaded.half
  pub sequence : manifest.sequence ≡ loaded.sequence
  pub place : manifest.tail.place ≡ loaded.place

-- The device is loaded as this, with runs of taken numbers that four bytes count, nothing is pending on it, and these are its
-- places.
pub record AtRest {D : Type 0} (g : Ghosts D) (disk : D) (layout : Layout) (log : Ring) (manifest : Manifest) (loaded : Loaded) : Type 0 where
  pub says : IsLoaded (g.seen disk) loaded
  pub counted : AreCounted loaded.metadata.taken
  pub still : g.pending disk ≡ []
  pub home : IsHome layout log manifest loaded
