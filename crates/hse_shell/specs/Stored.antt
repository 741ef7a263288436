-- What a device stores, and where one is refused.
use Rattle.std.specs.Prelude.{◌≡◌, ◌≢◌, ◌⊎◌, ℕ, ◌+◌, ◌%◌, ◌^◌, ◌≤◌, ◌==◌, if◌then◌else◌, List, [], ◌∷◌, length, Ok, Err}
use Rattle.std.specs.FinMap as map
use Rattle.gate_log.specs.Gates.{Gated, IsClosed}
use Rattle.gate_log.specs.Places.{region_of, tail_of}
use Rattle.gate_log.specs.Reading.{Ends}
use Rattle.gate_log.specs.declared.front.End.{End}
use Rattle.gate_log.specs.declared.front.End.TheVariants.{Closed}
use Rattle.gate_log.specs.declared.region.Region.{Region}
use Rattle.hse_fields.specs.LogText as log
use Rattle.hse_io.specs.Longest.{longest_line}
use Rattle.wal.specs.Charges.{charges}
use Rattle.wal.specs.Numbering.{Numbers}
use Rattle.wal.specs.Replaying.{starting, segment_of}
use Rattle.wal.specs.declared.live.StorePrefix.{StorePrefix}
use Rattle.hse_shell.specs.Base.{Base}
use Rattle.hse_shell.specs.Change.{Contents}
use Rattle.hse_shell.specs.LogText.{store_id}

-- the device's size
abbrev pub device_size : ℕ
device_size = 4194304

-- the whole device is one region, the log
abbrev pub log_region : Region
log_region = record { at = 0; size = device_size }

-- The region has the sequences 1, 5, 9 and so on, up to the greatest.
abbrev pub IsLogSequence : ℕ → Type 0
IsLogSequence sequence = (sequence % 4 ≡ 1) × (sequence ≤ 2 ^ 62)

-- The one store allows no prefix delete.
abbrev pub live_stores : List StorePrefix
live_stores = record { store = record { 0 = store_id }; length = 0 } ∷ []

-- a value has no limit of its own but a line's
abbrev pub longest_value : ℕ
longest_value = longest_line

-- Before the first commit: it has the number 2, no number is taken, and the room is a segment's.
abbrev pub first_numbers : ℕ → Numbers
first_numbers size = starting 2 [] size

-- What a change of the store makes of its contents. A prefix delete of it is refused where it is read.
abbrev pub changed_by : log.Kind → Contents → List ℕ → List ℕ → Contents
changed_by log.put contents key value = map.insert contents key value
changed_by log.del contents key value = map.remove contents key
changed_by log.pdel contents prefix value = contents

-- Changes of stores that are not there do nothing.
abbrev pub changed : Contents → log.Change → Contents
changed contents c = if c.store == store_id then changed_by c.kind contents c.name c.value else contents

abbrev pub changed_all : Contents → List log.Change → Contents
changed_all contents [] = contents
changed_all contents (c ∷ cs) = changed_all (changed contents c) cs

-- the contents after these commits, in order
abbrev pub replayed : Contents → List log.Entry → Contents
replayed contents [] = contents
replayed contents (e ∷ es) = replayed (changed_all contents e.changes) es

-- what these commits lead to: the base before the first one has number 1
abbrev pub base_of : List log.Entry → Base
base_of entries = record { number = 1 + length entries; contents = replayed map.empty entries; charges = charges entries }

-- a closed gate behind these batches
abbrev pub closed_behind : List (List ℕ) → End
closed_behind payloads = Closed (record { place = tail_of payloads })

-- The image is one region of the log whose batches say these commits.
pub record Loads (image : List ℕ) (entries : List log.Entry) : Type 0 where
  pub as_long : length image ≡ device_size
  pub sequence : ℕ
  pub payloads : List (List ℕ)
  pub gated : Gated (region_of log_region image) sequence payloads
  pub of_log : IsLogSequence sequence
  pub last : Numbers
  pub read : segment_of live_stores longest_value (first_numbers device_size) payloads (closed_behind payloads) ≡ Ok (entries, last)

-- The image is formed, and this is what it stores.
pub record Stores (image : List ℕ) (base : Base) : Type 0 where
  pub entries : List log.Entry
  pub loads : Loads image entries
  pub is : base_of entries ≡ base

-- what a run begins with: an empty device is formatted, and another one stores it
abbrev pub Begins : List ℕ → Base → Type 0
Begins image base = ((image ≡ []) × (base ≡ base_of [])) ⊎ Stores image base

-- The image is refused, and this is the place of the first field that is: any other size at 0, a closed head at 0,
-- a sequence that is none of the region's at 1, else what the text of its batches refuses.
pub data IsRefusedAt (image : List ℕ) (place : ℕ) : Type 0 where
  of_size : image ≢ [] → length image ≢ device_size → place ≡ 0 → IsRefusedAt image place
  of_head : length image ≡ device_size → IsClosed (region_of log_region image) → place ≡ 0 → IsRefusedAt image place
  of_sequence : (sequence : ℕ) (payloads : List (List ℕ)) (end : End) → length image ≡ device_size
      → Ends (region_of log_region image) sequence payloads end → (IsLogSequence sequence → ⊥) → place ≡ 1 → IsRefusedAt image place
  of_batches : (sequence : ℕ) (payloads : List (List ℕ)) (end : End) → length image ≡ device_size
      → Ends (region_of log_region image) sequence payloads end → IsLogSequence sequence
      → segment_of live_stores longest_value (first_numbers device_size) payloads end ≡ Err place → IsRefusedAt image place
