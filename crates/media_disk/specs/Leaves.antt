-- What a crash during one or several calls may leave.
use Rattle.std.specs.Prelude.{◌⊎◌, ℕ, ◌≤◌, List}
use Rattle.media_disk.specs.Images.{MayLeave}
use Rattle.media_disk.specs.declared.device.Device.{Ghosts}

-- A crash at some moment since an earlier clock might have left what it might have left before these calls, or an
-- image with P.
abbrev pub LeavesOnly : {D : Type 0} → Ghosts D → D → D → (List ℕ → Type 0) → Type 0
LeavesOnly g old new P =
    (clock : ℕ) (image : List ℕ) → clock ≤ g.clock old → g.could new clock image → g.could old clock image ⊎ P image

-- Over one call: a crash at some moment since an earlier clock, inside the call too, might have left what it
-- might have left before the call, or what it may leave now, and nothing else.
pub record Elapses {D : Type 0} (g : Ghosts D) (old new : D) : Type 0 where
  pub nothing_else : LeavesOnly g old new (MayLeave g new)
  pub keeps : (clock : ℕ) (image : List ℕ) → clock ≤ g.clock old → g.could old clock image → g.could new clock image
