-- What the calls on a region answer, and what the device's count of faults says of it.
use Rattle.std.specs.Prelude.{◌≡◌, ℕ, ◌+◌, ◌<◌, ◌≤◌, List, Option, Result, Ok, Err}
use Rattle.hse_io.specs.Faults.{Rose}
use Rattle.media_disk.specs.declared.device.Device.{Ghosts}
use Rattle.gate_log.specs.Places.{need_of, room_of}
use Rattle.gate_log.specs.declared.appending.AppendFault.{AppendFault}
use Rattle.gate_log.specs.declared.appending.AppendFault.TheVariants as append
use Rattle.gate_log.specs.declared.front.FrontFault.{FrontFault}
use Rattle.gate_log.specs.declared.front.FrontFault.TheVariants as front
use Rattle.gate_log.specs.declared.found.RegionFault.{RegionFault}
use Rattle.gate_log.specs.declared.found.RegionFault.TheVariants as reading
use Rattle.gate_log.specs.declared.region.Region.{Region}
use Rattle.gate_log.specs.declared.region.Tail.{Tail}

-- An append moves the tail by what the batch needs, and the tail stays in the region. It is full exactly where the
-- room is less than that. The tail of a failed append stays.
abbrev pub IsAppendAnswer : Region → Tail → Tail → List ℕ → Result (Unit {0}) AppendFault → Type 0
IsAppendAnswer region old new payload (Ok value) = (new.place ≡ old.place + need_of payload) × (new.place < region.size)
IsAppendAnswer region old new payload (Err (append.Full need room)) =
    (room_of region old < need_of payload) × (need ≡ need_of payload) × (room ≡ room_of region old) × (new ≡ old)
IsAppendAnswer region old new payload (Err append.Device) = (need_of payload ≤ room_of region old) × (new ≡ old)

-- the device failed where the answer says so, and it was not called where the region is full
abbrev pub AppendReports : {D : Type 0} → Ghosts D → D → D → Result (Unit {0}) AppendFault → Type 0
AppendReports g old new (Ok value) = g.faults new ≡ g.faults old
AppendReports g old new (Err (append.Full need room)) = new ≡ old
AppendReports g old new (Err append.Device) = Rose (g.faults old) (g.faults new)

-- the device failed exactly where the answer says so
abbrev pub FrontReports : {D T : Type 0} → Ghosts D → D → D → Result T FrontFault → Type 0
FrontReports g old new (Ok value) = g.faults new ≡ g.faults old
FrontReports g old new (Err front.NoMemory) = g.faults new ≡ g.faults old
FrontReports g old new (Err front.Device) = Rose (g.faults old) (g.faults new)

-- the same of a whole region
abbrev pub RegionReports : {D T : Type 0} → Ghosts D → D → D → Result T RegionFault → Type 0
RegionReports g old new (Err reading.Device) = Rose (g.faults old) (g.faults new)
RegionReports g old new result = g.faults new ≡ g.faults old
