-- Where a region lies on a device, and where its parts lie in it.
use Rattle.std.specs.Prelude.{◌⊎◌, ℕ, ◌+◌, ◌-◌, ◌^◌, ◌<◌, ◌≤◌, List, length, sum_by}
use Rattle.std.specs.List.{AllByRecursion}
use Rattle.media_disk.specs.Content.{part}
use Rattle.gate_log.specs.Gates.{first_gate, frame_size}
use Rattle.gate_log.specs.declared.region.Region.{Region}
use Rattle.gate_log.specs.declared.region.Tail.{Tail}

-- the region's bytes
abbrev pub region_of : Region → List ℕ → List ℕ
region_of region bytes = part bytes region.at region.size

-- the region lies on a device of this size
abbrev pub LiesIn : Region → ℕ → Type 0
LiesIn region extent = (region.at + region.size ≤ extent) × (region.at + region.size < 2 ^ 64)

-- two regions have no byte in common
abbrev pub AreApart : Region → Region → Type 0
AreApart region other = (region.at + region.size ≤ other.at) ⊎ (other.at + other.size ≤ region.at)

-- what a batch takes: its gate, its length and its payload
abbrev pub need_of : List ℕ → ℕ
need_of payload = frame_size + length payload

-- the place of the closed gate behind these batches
abbrev pub tail_of : List (List ℕ) → ℕ
tail_of payloads = first_gate + sum_by need_of payloads

-- what the region has left behind that gate
abbrev pub room_of : Region → Tail → ℕ
room_of region tail = region.size - (tail.place + 1)

-- no pending range touches the region
abbrev pub IsApart : Region → List (ℕ × ℕ) → Type 0
IsApart region ranges =
    AllByRecursion (λ range. (range.0 + range.1 ≤ region.at) ⊎ (region.at + region.size ≤ range.0)) ranges
