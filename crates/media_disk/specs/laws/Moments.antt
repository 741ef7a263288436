-- The moments of a disk in memory and its images of now.
use Rattle.std.specs.Prelude.{ℕ, ◌≤◌, List, [], ◌∷◌}
use Rattle.std.proofs.Common.{inl, inr, arith}
use Rattle.media_disk.specs.Images.{IsImage}
use Rattle.media_disk.specs.Record.{pending_of, could_of, clock_after}
use Rattle.media_disk.specs.declared.call.Call.{Call}

-- an image of now counts since any clock
pub could_now : (calls : List Call) (bytes : List ℕ) (clock : ℕ) (image : List ℕ)
    → IsImage bytes (pending_of calls) image → could_of calls bytes clock image
could_now [] bytes clock image now = now
could_now (call ∷ earlier) bytes clock image now = inl now

-- since a clock that no call has, there are only the images of now
pub could_only_now : (calls : List Call) (bytes : List ℕ) (clock : ℕ) (image : List ℕ) → clock_after calls ≤ clock
    → could_of calls bytes clock image → IsImage bytes (pending_of calls) image
could_only_now [] bytes clock image later left = left
could_only_now (call ∷ earlier) bytes clock image later (inl now) = now
could_only_now (call ∷ earlier) bytes clock image later (inr past) = absurd (omega (arith, past.0))
