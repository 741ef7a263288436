-- What an image of a device says, part by part: its superblock, its manifest and its log.
use Rattle.std.specs.Prelude.{◌≡◌, ℕ, ◌+◌, ◌-◌, ◌^◌, ◌≤◌, List, [], length, map, Ok}
use Rattle.hse_fields.specs.LogText.{Entry}
use Rattle.media_disk.specs.Content.{part}
use Rattle.gate_log.specs.Places.{region_of}
use Rattle.gate_log.specs.Reading.{Ends}
use Rattle.gate_log.specs.declared.front.End.TheVariants.{Closed}
use Rattle.gate_log.specs.declared.region.Region.{Region}
use Rattle.gate_log.specs.declared.region.Tail.{Tail}
use Rattle.hse_rows.specs.writes.Lengths.{longest_value_in}
use Rattle.hse_rows.specs.machine.Sizes.{device_block}
use Rattle.hse_rows.specs.machine.TakenRuns.{numbers_of}
use Rattle.device_layout.specs.Layouts.{IsGood, params_of, segment_of as region_at}
use Rattle.device_layout.specs.Superblock.{superblock_of, says}
use Rattle.device_layout.specs.declared.layout.Layout.{Layout}
use Rattle.manifest.specs.Half.{Holds}
use Rattle.manifest.specs.Metadata.{LiveStore, Metadata}
use Rattle.wal.specs.Numbering.{Numbers, free_from, taken_from}
use Rattle.wal.specs.Replaying.{segment_of, starting}
use Rattle.wal.specs.Stores.{OfEachStore}
use Rattle.wal.specs.declared.live.StorePrefix.{StorePrefix}

-- ---- the superblock

-- the first block
abbrev pub block_in : List ℕ → List ℕ
block_in image = part image 0 device_block

-- The first block says this layout, and the image is as large as it says.
pub record HasLayout (image : List ℕ) (layout : Layout) : Type 0 where
  pub good : IsGood layout
  pub says : superblock_of (length image) (block_in image) ≡ says (params_of layout)

-- ---- the log

-- the most bytes that a value has
abbrev pub longest_value : Layout → ℕ
longest_value layout = longest_value_in (2 ^ layout.power)

-- the one segment that is needed
abbrev pub log_region : Layout → Region
log_region layout = region_at layout 1

-- a live store's prefix length, as the log asks it
abbrev pub prefix_of : LiveStore → StorePrefix
prefix_of store = record { store = record { 0 = store.id }; length = store.prefix_length }

abbrev pub prefixes_of : List LiveStore → List StorePrefix
prefixes_of stores = map prefix_of stores

-- Before the first entry: the number behind the horizon comes next, unless it is taken.
abbrev pub before_log : Layout → Metadata → Numbers
before_log layout m = starting (m.horizon + 1) (numbers_of m.taken) layout.log

-- what a log says: its entries, the least number that may come behind them, and the place of its closed gate
pub record Log : Type 0 where
  pub entries : List Entry
  pub next : ℕ
  pub place : ℕ

-- The segment has the sequence 1, and its batches say these entries.
pub record HasLog (layout : Layout) (image : List ℕ) (m : Metadata) (log : Log) : Type 0 where
  pub payloads : List (List ℕ)
  pub tail : Tail
  pub ends : Ends (region_of (log_region layout) image) 1 payloads (Closed tail)
  pub last : Numbers
  pub read : segment_of (prefixes_of m.stores) (longest_value layout) (before_log layout m) payloads (Closed tail)
      ≡ Ok (log.entries, last)
  pub next : log.next ≡ last.next
  pub place : log.place ≡ tail.place

-- Behind the last entry no number is free below a taken one.
abbrev pub HasNoGap : Metadata → Log → Type 0
HasNoGap m log = taken_from log.next (numbers_of m.taken) ≡ []

-- the last number: of the horizon, the taken numbers and the entries the greatest
abbrev pub number_of : Metadata → Log → ℕ
number_of m log = free_from log.next (numbers_of m.taken) - 1

-- No change of an entry names a store id above the last number.
abbrev pub NamesKnown : Metadata → Log → Type 0
NamesKnown m log = OfEachStore (λ (store : ℕ). store ≤ number_of m log) log.entries

-- ---- the whole image

-- What is loaded of an image: its layout, where its manifest stands and what it says, and its log.
pub record Loaded : Type 0 where
  pub layout : Layout
  pub half : ℕ
  pub sequence : ℕ
  pub place : ℕ
  pub metadata : Metadata
  pub log : Log

-- The image is formed, and this is what is loaded of it.
pub record IsLoaded (image : List ℕ) (loaded : Loaded) : Type 0 where
  pub layout : HasLayout image loaded.layout
  pub manifest : Holds loaded.layout loaded.half loaded.sequence loaded.place image loaded.metadata
  pub log : HasLog loaded.layout image loaded.metadata loaded.log
  pub full : HasNoGap loaded.metadata loaded.log
  pub named : NamesKnown loaded.metadata loaded.log

-- The image is formed: nothing of it is refused.
abbrev pub IsFormed : List ℕ → Type 0
IsFormed image = (loaded : Loaded) × IsLoaded image loaded
