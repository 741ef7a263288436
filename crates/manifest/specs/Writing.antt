-- What adding an entry to the manifest answers, and what a crash within may leave.
use Rattle.std.specs.Prelude.{◌≡◌, ◌⊎◌, ℕ, ◌+◌, ◌-◌, ◌<◌, ◌≤◌, List, Result, Ok, Err}
use Rattle.hse_io.specs.Faults.{Rose}
use Rattle.media_disk.specs.Images.{MayLeave}
use Rattle.media_disk.specs.Leaves.{LeavesOnly}
use Rattle.media_disk.specs.declared.device.Device.{Ghosts}
use Rattle.gate_log.specs.Crashes.{IsWithin}
use Rattle.gate_log.specs.Places.{IsApart, need_of, room_of}
use Rattle.device_layout.specs.Layouts.{half_of}
use Rattle.device_layout.specs.declared.layout.Layout.{Layout}
use Rattle.manifest.specs.Half.{Holds, head_size}
use Rattle.manifest.specs.Loading.{HoldsAt}
use Rattle.manifest.specs.Metadata.{Metadata, greatest_number}
use Rattle.manifest.specs.declared.fault.ManifestFault.{ManifestFault}
use Rattle.manifest.specs.declared.fault.ManifestFault.TheVariants.{ManifestFull, Device}
use Rattle.manifest.specs.declared.manifest.Manifest.{Manifest}

-- what the half in force has left
abbrev pub room_in : Manifest → ℕ
room_in m = room_of (half_of m.layout m.half) m.tail

-- what a new half has room for
abbrev pub room_of_half : Layout → ℕ
room_of_half layout = layout.manifest - head_size

-- one batch more in the half in force
pub record IsLogged (old new : Manifest) (need : ℕ) : Type 0 where
  pub layout : new.layout ≡ old.layout
  pub half : new.half ≡ old.half
  pub sequence : new.sequence ≡ old.sequence
  pub tail : new.tail.place ≡ old.tail.place + need

-- one batch in the other half
pub record IsRolled (old new : Manifest) (need : ℕ) : Type 0 where
  pub layout : new.layout ≡ old.layout
  pub half : new.half ≡ 1 - old.half
  pub sequence : new.sequence ≡ old.sequence + 1
  pub tail : new.tail.place ≡ head_size - 1 + need

-- An entry that is logged is full exactly where its need is more than the room; a failed one leaves the place.
abbrev pub IsLogAnswer : Manifest → Manifest → List ℕ → Result (Unit {0}) ManifestFault → Type 0
IsLogAnswer old new payload (Ok value) = (need_of payload ≤ room_in old) × IsLogged old new (need_of payload)
IsLogAnswer old new payload (Err (ManifestFull need room)) =
    (room_in old < need_of payload) × (need ≡ need_of payload) × (room ≡ room_in old) × (new ≡ old)
IsLogAnswer old new payload (Err Device) = (need_of payload ≤ room_in old) × (new ≡ old)

-- A roll is full exactly where its base needs more than a new half has, or no greater sequence is left.
abbrev pub IsRollFull : Manifest → List ℕ → Type 0
IsRollFull m payload = (room_of_half m.layout < need_of payload) ⊎ (greatest_number ≤ m.sequence)

abbrev pub IsRollAnswer : Manifest → Manifest → List ℕ → Result (Unit {0}) ManifestFault → Type 0
IsRollAnswer old new payload (Ok value) = ¬ IsRollFull old payload × IsRolled old new (need_of payload)
IsRollAnswer old new payload (Err (ManifestFull need room)) =
    IsRollFull old payload × (need ≡ need_of payload) × (room ≡ room_of_half old.layout) × (new ≡ old)
IsRollAnswer old new payload (Err Device) = ¬ IsRollFull old payload × (new ≡ old)

-- the device failed where the answer says so, and it was not called where the half is full
abbrev pub WriteReports : {D : Type 0} → Ghosts D → D → D → Result (Unit {0}) ManifestFault → Type 0
WriteReports g old new (Ok value) = g.faults new ≡ g.faults old
WriteReports g old new (Err (ManifestFull need room)) = new ≡ old
WriteReports g old new (Err Device) = Rose (g.faults old) (g.faults new)

-- nothing is pending in either half
abbrev pub HalvesApart : Layout → List (ℕ × ℕ) → Type 0
HalvesApart layout ranges = IsApart (half_of layout 0) ranges × IsApart (half_of layout 1) ranges

-- The image holds the old metadata where they were, or the new ones with this batch behind the others.
abbrev pub OldOrLogged : Manifest → List ℕ → Metadata → Metadata → List ℕ → Type 0
OldOrLogged m payload before after image =
    HoldsAt m image before ⊎ Holds m.layout m.half m.sequence (m.tail.place + need_of payload) image after

-- The image holds the old metadata where they were, or the new ones with this batch alone in the other half.
abbrev pub OldOrRolled : Manifest → List ℕ → Metadata → Metadata → List ℕ → Type 0
OldOrRolled m payload before after image =
    HoldsAt m image before ⊎ Holds m.layout (1 - m.half) (m.sequence + 1) (head_size - 1 + need_of payload) image after

-- A crash leaves what it might have left before the call, or an image with Q, and then all but this half is as a crash
-- before the call might have left it.
abbrev pub LeavesHalf : {D : Type 0} → Ghosts D → Layout → ℕ → D → D → (List ℕ → Type 0) → Type 0
LeavesHalf g layout half old new Q = LeavesOnly g old new
    (λ image. IsWithin (half_of layout half) (MayLeave g old) image × Q image)
