-- What a reading of a region answers.
use Rattle.std.specs.Prelude.{◌≡◌, ℕ, ◌+◌, ◌<◌, ◌≤◌, List, map, Option, Some, None, Result, Ok, Err}
use Rattle.gate_log.specs.Gates.{Gated, IsClosed, IsCutOffAt, DamagedAt}
use Rattle.gate_log.specs.Places.{tail_of}
use Rattle.gate_log.specs.declared.found.Found.{Found}
use Rattle.gate_log.specs.declared.found.Payload.{Payload}
use Rattle.gate_log.specs.declared.front.End.{End}
use Rattle.gate_log.specs.declared.front.End.TheVariants.{Closed, CutOff}
use Rattle.gate_log.specs.declared.front.Front.{Front}
use Rattle.gate_log.specs.declared.front.FrontFault.{FrontFault}
use Rattle.gate_log.specs.declared.front.FrontFault.TheVariants as front
use Rattle.gate_log.specs.declared.found.RegionFault.{RegionFault}
use Rattle.gate_log.specs.declared.found.RegionFault.TheVariants.{Damaged, Device, NoMemory}

-- the batches' bytes
abbrev pub payloads_of : List Payload → List (List ℕ)
payloads_of batches = map (λ payload. payload.bytes.items) batches

-- what stands behind these batches of the region
abbrev pub Ends : List ℕ → ℕ → List (List ℕ) → End → Type 0
Ends region sequence payloads (Closed tail) =
    Gated region sequence payloads × (tail.place ≡ tail_of payloads)
Ends region sequence payloads (CutOff place) = IsCutOffAt region sequence payloads place

-- this is what the region holds, up to what ends its batches
abbrev pub IsFront : List ℕ → Option Front → Type 0
IsFront region (Some front) = Ends region front.sequence (payloads_of front.batches.items) front.end
IsFront region None = IsClosed region

-- both have a closed head, or the same sequence, batches and end
abbrev pub SameFronts : Option Front → Option Front → Type 0
SameFronts (Some one) (Some other) =
    (one.sequence ≡ other.sequence) × (payloads_of one.batches.items ≡ payloads_of other.batches.items) × (one.end ≡ other.end)
SameFronts None None = Unit {0}
SameFronts (Some one) None = ⊥
SameFronts None (Some other) = ⊥

-- these batches and what stands behind them lie inside a region of this size
abbrev pub LiesInside : ℕ → List (List ℕ) → End → Type 0
LiesInside size payloads (Closed tail) = (tail.place ≡ tail_of payloads) × (tail.place < size)
LiesInside size payloads (CutOff place) = (place ≡ tail_of payloads + 1) × (place ≤ size)

abbrev pub EndsInside : ℕ → Option Front → Type 0
EndsInside size (Some front) = LiesInside size (payloads_of front.batches.items) front.end
EndsInside size None = Unit {0}

-- the fault is the same
abbrev pub IsSameFault : FrontFault → RegionFault → Type 0
IsSameFault front.Device fault = fault ≡ Device
IsSameFault front.NoMemory fault = fault ≡ NoMemory

-- what was found is what the region holds, and where its batches end
pub record IsFound (region : List ℕ) (found : Found) : Type 0 where
  pub gated : Gated region found.sequence (payloads_of found.batches.items)
  pub tail : found.tail.place ≡ tail_of (payloads_of found.batches.items)

-- The answer says what the region holds, or where it is damaged.
abbrev pub IsReading : List ℕ → Result (Option Found) RegionFault → Type 0
IsReading region (Ok (Some found)) = IsFound region found
IsReading region (Ok None) = IsClosed region
IsReading region (Err (Damaged place)) = DamagedAt region place
IsReading region (Err Device) = Unit {0}
IsReading region (Err NoMemory) = Unit {0}

-- the tail lies inside a region of this size
abbrev pub IsInside : ℕ → Result (Option Found) RegionFault → Type 0
IsInside size (Ok (Some found)) = found.tail.place < size
IsInside size (Ok None) = Unit {0}
IsInside size (Err fault) = Unit {0}
