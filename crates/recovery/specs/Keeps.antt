-- What calls that read and sync keep of a device.
use Rattle.std.specs.Prelude.{◌≡◌, ℕ, ◌≤◌, List, []}
use Rattle.hse_io.specs.Faults.{next_count}
use Rattle.media_disk.specs.Images.{MayLeave}
use Rattle.media_disk.specs.Leaves.{LeavesOnly}
use Rattle.media_disk.specs.declared.device.Device.{Ghosts}

-- What a read gives stays, also a size that was told, and what is safe; and a crash within or behind the calls leaves
-- what it might have left before them.
pub record Keeps {D : Type 0} (g : Ghosts D) (old new : D) : Type 0 where
  pub seen : g.tells → g.seen new ≡ g.seen old
  pub images : g.tells → (image : List ℕ) → MayLeave g new image → MayLeave g old image
  pub crash : g.tells → LeavesOnly g old new (MayLeave g old)
  pub extent : 1 ≤ g.extent old → g.extent new ≡ g.extent old
  pub still : g.tells → g.pending old ≡ [] → g.pending new ≡ []

-- A barrier was the first call, and its moment is this clock: what was read is safe, and a crash at any moment since it leaves that.
pub record IsBarrier {D : Type 0} (g : Ghosts D) (old new : D) (moment : ℕ) : Type 0 where
  pub first : moment ≡ next_count (g.clock old)
  pub past : moment ≤ g.clock new
  pub safe : g.tells → g.pending new ≡ []
  pub since : g.tells → (image : List ℕ) → g.could new moment image → image ≡ g.seen new
