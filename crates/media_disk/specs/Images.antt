-- What a crash may leave.
use Rattle.std.specs.Prelude.{◌≡◌, ℕ, ◌≤◌, List, [], ◌∷◌}
use Rattle.media_disk.specs.Content.{Torn}
use Rattle.media_disk.specs.declared.device.Device.{Ghosts}

-- A crash leaves what a read gives, but for the pending ranges, an offset and a length each, which may hold any
-- bytes.
abbrev pub IsImage : List ℕ → List (ℕ × ℕ) → List ℕ → Type 0
IsImage bytes [] image = image ≡ bytes
IsImage bytes (range ∷ ranges) image = (torn : List ℕ) × Torn range.0 range.1 bytes torn × IsImage torn ranges image

-- a crash now may leave this image of the device
abbrev pub MayLeave : {D : Type 0} → Ghosts D → D → List ℕ → Type 0
MayLeave g disk image = IsImage (g.seen disk) (g.pending disk) image

-- what a crash may leave now counts since any clock so far
abbrev pub CountsNow : {D : Type 0} → Ghosts D → Type 0
CountsNow {D = D} g = (disk : D) (clock : ℕ) (image : List ℕ) → g.tells → clock ≤ g.clock disk
    → MayLeave g disk image → g.could disk clock image

-- since now there is no other moment
abbrev pub OnlyNow : {D : Type 0} → Ghosts D → Type 0
OnlyNow {D = D} g = (disk : D) (image : List ℕ) → g.tells → g.could disk (g.clock disk) image → MayLeave g disk image
