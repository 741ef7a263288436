-- What a crash within a call may leave of a region.
use Rattle.std.specs.Prelude.{◌≡◌, ◌⊎◌, ℕ, List, [], ◌∷◌, ◌++◌}
use Rattle.media_disk.specs.Content.{Torn}
use Rattle.media_disk.specs.Images.{MayLeave}
use Rattle.media_disk.specs.Leaves.{LeavesOnly}
use Rattle.media_disk.specs.declared.device.Device.{Ghosts}
use Rattle.gate_log.specs.Gates.{Gated, IsClosed}
use Rattle.gate_log.specs.Places.{region_of}
use Rattle.gate_log.specs.declared.region.Region.{Region}

-- the image is one from before the call, but for what stands in the region
pub record IsWithin (region : Region) (before : List ℕ → Type 0) (image : List ℕ) : Type 0 where
  pub old : List ℕ
  pub was : before old
  pub same : Torn region.at region.size old image

-- the image is one from before the call, but for n bytes from a place on
pub record IsTornFrom (at n : ℕ) (before : List ℕ → Type 0) (image : List ℕ) : Type 0 where
  pub old : List ℕ
  pub was : before old
  pub torn : Torn at n old image

-- A crash leaves what it might have left before the call, or the region holds Q then, and all else is as a crash
-- before the call might have left it.
abbrev pub LeavesRegion : {D : Type 0} → Ghosts D → Region → D → D → (List ℕ → Type 0) → Type 0
LeavesRegion g region old new Q =
    LeavesOnly g old new (λ image. IsWithin region (MayLeave g old) image × Q (region_of region image))

-- an append leaves the old batches, or the old ones and the new one
abbrev pub OldOrNew : ℕ → List (List ℕ) → List ℕ → List ℕ → Type 0
OldOrNew sequence payloads payload region =
    Gated region sequence payloads ⊎ Gated region sequence (payloads ++ payload ∷ [])

-- The closing of a head leaves it closed, or the region as it was.
abbrev pub ClosedOrSame : List ℕ → List ℕ → Type 0
ClosedOrSame old region = IsClosed region ⊎ (region ≡ old)

-- A start leaves a closed head, the region as it was, or the new sequence without batches: so a head that was closed
-- stays closed, whatever lies behind it, until the region is started.
abbrev pub ClosedOrStarted : List ℕ → ℕ → List ℕ → Type 0
ClosedOrStarted old sequence region = ClosedOrSame old region ⊎ Gated region sequence []
