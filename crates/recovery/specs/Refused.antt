-- Where an image is refused: by its first part that is refused, in the order superblock, manifest, log.
use Rattle.std.specs.Prelude.{◌≡◌, ◌≢◌, ◌⊎◌, ℕ, ◌<◌, ◌≤◌, List, [], length, Err}
use Rattle.gate_log.specs.Gates.{IsClosed}
use Rattle.gate_log.specs.Places.{region_of}
use Rattle.gate_log.specs.Reading.{Ends}
use Rattle.gate_log.specs.declared.front.End.{End}
use Rattle.hse_rows.specs.machine.Sizes.{device_block}
use Rattle.hse_rows.specs.machine.TakenRuns.{numbers_of}
use Rattle.device_layout.specs.Superblock.{superblock_of, other_version, refused}
use Rattle.device_layout.specs.declared.layout.Layout.{Layout}
use Rattle.manifest.specs.Half.{Holds, IsMetadata, IsRefused}
use Rattle.manifest.specs.Metadata.{Metadata}
use Rattle.wal.specs.Numbering.{taken_from}
use Rattle.wal.specs.Replaying as log
use Rattle.recovery.specs.Image.{Log, IsFormed, HasLayout, HasLog, HasNoGap, NamesKnown, before_log, block_in, log_region, longest_value, prefixes_of}
use Rattle.recovery.specs.declared.region.Region.{Region}
use Rattle.recovery.specs.declared.region.Region.TheVariants.{Super, Manifest, Log as LogSegment, Slot}

-- The image is too small for a superblock, which is refused at the size, or a field of the superblock is refused.
abbrev pub IsSuperRefused : List ℕ → ℕ → Type 0
IsSuperRefused image place =
    ((length image < device_block) × (place ≡ length image))
    ⊎ ((device_block ≤ length image) × (superblock_of (length image) (block_in image) ≡ refused place))

-- the superblock says a version that is not known
abbrev pub IsOtherVersion : List ℕ → ℕ → Type 0
IsOtherVersion image version =
    (device_block ≤ length image) × (superblock_of (length image) (block_in image) ≡ other_version version)

-- a front of another sequence
pub record HasOtherSequence (region : List ℕ) : Type 0 where
  pub sequence : ℕ
  pub payloads : List (List ℕ)
  pub end : End
  pub ends : Ends region sequence payloads end
  pub differs : sequence ≢ 1

-- The segment's head is closed, or has another sequence: the segment does not count.
abbrev pub LacksSegment : Layout → List ℕ → Type 0
LacksSegment layout image =
    IsClosed (region_of (log_region layout) image) ⊎ HasOtherSequence (region_of (log_region layout) image)

-- the text of the segment's batches is refused at this place
pub record IsTextRefused (layout : Layout) (image : List ℕ) (m : Metadata) (place : ℕ) : Type 0 where
  pub payloads : List (List ℕ)
  pub end : End
  pub ends : Ends (region_of (log_region layout) image) 1 payloads end
  pub refused :
      log.segment_of (prefixes_of m.stores) (longest_value layout) (before_log layout m) payloads end ≡ Err place

-- The segment does not count, and is refused at its head, or the text of its batches is refused.
abbrev pub IsUnread : Layout → List ℕ → Metadata → ℕ → Type 0
IsUnread layout image m place = ((place ≡ 0) × LacksSegment layout image) ⊎ IsTextRefused layout image m place

-- A change names a store id above the last number, where taken numbers leave no gap: the segment is refused at its head.
pub record NamesUnknown (layout : Layout) (image : List ℕ) (m : Metadata) : Type 0 where
  pub log : Log
  pub has_log : HasLog layout image m log
  pub full : HasNoGap m log
  pub unknown : ¬ NamesKnown m log

-- The log is not read, or its changes name a store id above the last number.
pub record IsLogRefused (image : List ℕ) (place : ℕ) : Type 0 where
  pub layout : Layout
  pub layout_is : HasLayout image layout
  pub metadata : Metadata
  pub manifest : IsMetadata layout image metadata
  pub refused : IsUnread layout image metadata place ⊎ ((place ≡ 0) × NamesUnknown layout image metadata)

-- Taken numbers leave a gap behind the last entry: the half in force is refused at its head.
pub record HasGap (layout : Layout) (image : List ℕ) (half : ℕ) : Type 0 where
  pub sequence : ℕ
  pub place : ℕ
  pub metadata : Metadata
  pub manifest : Holds layout half sequence place image metadata
  pub log : Log
  pub has_log : HasLog layout image metadata log
  pub gap : taken_from log.next (numbers_of metadata.taken) ≢ []

pub record IsManifestRefused (image : List ℕ) (half place : ℕ) : Type 0 where
  pub layout : Layout
  pub layout_is : HasLayout image layout
  pub refused : IsRefused layout image half place ⊎ ((place ≡ 0) × HasGap layout image half)

-- The image is refused in this region at this place.
abbrev pub IsNotFormed : List ℕ → Region → ℕ → Type 0
IsNotFormed image Super place = IsSuperRefused image place
IsNotFormed image (Manifest half) place = IsManifestRefused image half place
IsNotFormed image (LogSegment segment) place = (segment ≡ 1) × IsLogRefused image place
IsNotFormed image (Slot slot) place = ⊥

-- The image is formed, or is refused somewhere, or has a version that is not known.
abbrev pub HasOpening : List ℕ → Type 0
HasOpening image =
    IsFormed image ⊎ (((region : Region) × (place : ℕ) × IsNotFormed image region place)
    ⊎ ((version : ℕ) × IsOtherVersion image version))
