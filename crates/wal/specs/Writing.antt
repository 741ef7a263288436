-- Where a device's log is, and what one batch more makes of it.
use Rattle.std.specs.Prelude.{◌≡◌, ℕ, ◌+◌, ◌-◌, ◌<◌, ◌≤◌, List, Result, Ok, Err}
use Rattle.hse_io.specs.Faults.{Rose}
use Rattle.media_disk.specs.declared.device.Device.{Ghosts}
use Rattle.gate_log.specs.Gates.{Gated}
use Rattle.gate_log.specs.Places.{need_of, region_of, tail_of}
use Rattle.gate_log.specs.declared.region.Region.{Region}
use Rattle.wal.specs.Charges.{end_size, entries_charge}
use Rattle.wal.specs.declared.ring.Ring.{Ring}
use Rattle.wal.specs.declared.writing.WalFault.{WalFault}
use Rattle.wal.specs.declared.writing.WalFault.TheVariants.{LogFull, Device}
use Rattle.wal.specs.declared.segment.SegmentEnd.{SegmentEnd}

-- the place is that of this segment in this region
pub record IsRingOf (region : Region) (segment : SegmentEnd) (ring : Ring) : Type 0 where
  pub region_is : ring.region ≡ region
  pub sequence : ring.sequence ≡ segment.sequence
  pub tail : ring.tail ≡ segment.tail
  pub charges : ring.charges ≡ segment.charges

-- what the active segment has left of its room
abbrev pub room_in : Ring → ℕ
room_in ring = ring.region.size - end_size - ring.charges

-- The active segment holds these batches, and the place is that of the closed gate behind them.
pub record HasBatches (ring : Ring) (image : List ℕ) (payloads : List (List ℕ)) : Type 0 where
  pub gated : Gated (region_of ring.region image) ring.sequence payloads
  pub tail : ring.tail.place ≡ tail_of payloads

-- one batch more in the active segment
pub record IsGrown (old new : Ring) (payload : List ℕ) : Type 0 where
  pub region_is : new.region ≡ old.region
  pub sequence : new.sequence ≡ old.sequence
  pub tail : new.tail.place ≡ old.tail.place + need_of payload
  pub charges : new.charges ≡ old.charges + entries_charge payload

-- The log is full exactly where the entries take more than the room; a failed write leaves the place.
abbrev pub IsWriteAnswer : Ring → Ring → List ℕ → Result (Unit {0}) WalFault → Type 0
IsWriteAnswer old new payload (Ok value) =
    (entries_charge payload ≤ room_in old) × IsGrown old new payload
IsWriteAnswer old new payload (Err (LogFull need room)) =
    (room_in old < entries_charge payload) × (need ≡ entries_charge payload) × (room ≡ room_in old) × (new ≡ old)
IsWriteAnswer old new payload (Err Device) = (entries_charge payload ≤ room_in old) × (new ≡ old)

-- the device failed where the answer says so, and it was not called where the log is full
abbrev pub WriteReports : {D : Type 0} → Ghosts D → D → D → Result (Unit {0}) WalFault → Type 0
WriteReports g old new (Ok value) = g.faults new ≡ g.faults old
WriteReports g old new (Err (LogFull need room)) = new ≡ old
WriteReports g old new (Err Device) = Rose (g.faults old) (g.faults new)
