-- What the reading of a manifest answers.
use Rattle.std.specs.Prelude.{◌≡◌, ℕ, ◌-◌, List, Option, Some, None, Result, Ok, Err}
use Rattle.hse_io.specs.Faults.{Rose}
use Rattle.media_disk.specs.declared.device.Device.{Ghosts}
use Rattle.device_layout.specs.declared.layout.Layout.{Layout}
use Rattle.manifest.specs.Half.{Holds, IsRefused, half_in_force}
use Rattle.manifest.specs.Metadata.{Metadata}
use Rattle.manifest.specs.Views.{metadata_as}
use Rattle.manifest.specs.declared.base.Base.{Base}
use Rattle.manifest.specs.declared.loaded.LoadFault.{LoadFault}
use Rattle.manifest.specs.declared.loaded.LoadFault.TheVariants.{Damaged, Device, NoMemory}
use Rattle.manifest.specs.declared.loaded.Loaded.{Loaded}
use Rattle.manifest.specs.declared.manifest.Manifest.{Manifest}
use Rattle.hse_fields.specs.declared.refusal.Refusal.{Refusal}
use Rattle.hse_fields.specs.declared.refusal.Refusal.TheVariants.{Left}
use Rattle.hse_fields.specs.declared.refusal.Refusal.TheVariants as refusal

-- The half in force of the manifest's layout is this one, and says this.
abbrev pub HoldsAt : Manifest → List ℕ → Metadata → Type 0
HoldsAt m image metadata = Holds m.layout m.half m.sequence m.tail.place image metadata

-- what the reading of some batches of a half gives is what reading gives on lists
abbrev pub Refuses : {Y : Type 0} → ℕ → LoadFault → Result Y ℕ → Type 0
Refuses half (Damaged which place) read = (which ≡ half) × (read ≡ Err place)
Refuses half Device read = ⊥
Refuses half NoMemory read = Unit {0}

abbrev pub Tells : {X Y : Type 0} → ℕ → (X → Y) → Result X LoadFault → Result Y ℕ → Type 0
Tells half view (Ok x) read = read ≡ Ok (view x)
Tells half view (Err fault) read = Refuses half fault read

-- the refusal so many bytes before this place of the half
abbrev pub PlacedIn : ℕ → ℕ → Refusal → LoadFault → Type 0
PlacedIn half end (Left left) fault = fault ≡ Damaged half (end - left)
PlacedIn half end refusal.NoMemory fault = fault ≡ NoMemory

-- the metadata of a base that may be there
abbrev pub base_as : Option Base → Option Metadata
base_as None = None
base_as (Some base) = Some (metadata_as base)

-- The half in force is this one, or the heads are refused in this half at this place.
abbrev pub IsHalf : Layout → List ℕ → Result ℕ LoadFault → Type 0
IsHalf layout image (Ok half) = half_in_force layout image ≡ Ok half
IsHalf layout image (Err (Damaged half place)) = half_in_force layout image ≡ Err (half, place)
IsHalf layout image (Err Device) = Unit {0}
IsHalf layout image (Err NoMemory) = Unit {0}

-- The answer is what the image's manifest says, or the half and the place at which it is refused.
abbrev pub IsLoad : Layout → List ℕ → Result Loaded LoadFault → Type 0
IsLoad layout image (Ok loaded) =
    (loaded.manifest.layout ≡ layout) × HoldsAt loaded.manifest image (metadata_as loaded.base)
IsLoad layout image (Err (Damaged half place)) = IsRefused layout image half place
IsLoad layout image (Err Device) = Unit {0}
IsLoad layout image (Err NoMemory) = Unit {0}

-- the device failed exactly where the answer says so
abbrev pub LoadReports : {D T : Type 0} → Ghosts D → D → D → Result T LoadFault → Type 0
LoadReports g old new (Ok value) = g.faults new ≡ g.faults old
LoadReports g old new (Err (Damaged half place)) = g.faults new ≡ g.faults old
LoadReports g old new (Err NoMemory) = g.faults new ≡ g.faults old
LoadReports g old new (Err Device) = Rose (g.faults old) (g.faults new)

-- no fault of the device
abbrev pub IsQuiet : {T : Type 0} → Result T LoadFault → Type 0
IsQuiet (Ok value) = Unit {0}
IsQuiet (Err (Damaged half place)) = Unit {0}
IsQuiet (Err NoMemory) = Unit {0}
IsQuiet (Err Device) = ⊥
