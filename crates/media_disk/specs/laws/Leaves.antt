-- How what a crash may leave goes on from call to call.
use Rattle.std.proofs.Common.{◌≡◌, ◌⊎◌, ℕ, ◌≤◌, List, Result, inl, inr, ⊎_elim, arith}
use Rattle.media_disk.specs.Calls.{Called, OnlyReads}
use Rattle.media_disk.specs.Images.{MayLeave, CountsNow, OnlyNow}
use Rattle.media_disk.specs.Leaves.{LeavesOnly}
use Rattle.media_disk.specs.declared.device.Device.{Ghosts}

module _ {D : Type 0} (g : Ghosts D) where
  -- before the first call
  pub leaves_started : (disk : D) (P : List ℕ → Type 0) → LeavesOnly g disk disk P
  leaves_started disk P clock image le left = inl left

  -- what has P has Q too
  pub leaves_more : (old new : D) (P Q : List ℕ → Type 0) → LeavesOnly g old new P → ((image : List ℕ) → P image → Q image)
      → LeavesOnly g old new Q
  leaves_more old new P Q so_far more clock image le left =
      ⊎_elim (λ was. inl was) (λ has. inr (more image has)) (so_far clock image le left)

  -- some calls, and then others
  pub leaves_joined : (old between new : D) (P : List ℕ → Type 0) → g.clock old ≤ g.clock between
      → LeavesOnly g old between P → LeavesOnly g between new P → LeavesOnly g old new P
  leaves_joined old between new P later so_far more clock image le left =
      ⊎_elim (so_far clock image le) (λ has. inr has) (more clock image (omega arith) left)

  -- one call more, after which what a crash may leave has P
  pub leaves_goes_on : {T E : Type 0} {result : Result T E} (old between new : D) (P : List ℕ → Type 0) → g.tells
      → g.clock old ≤ g.clock between → LeavesOnly g old between P → Called g between new result
      → ((image : List ℕ) → MayLeave g new image → P image) → LeavesOnly g old new P
  leaves_goes_on old between new P told later so_far call has clock image le left =
      ⊎_elim (so_far clock image le) (λ may. inr (has image may)) ((call.crash told).nothing_else clock image (omega arith) left)

  -- calls that only read
  pub leaves_read : (old new : D) (P : List ℕ → Type 0) → g.tells → OnlyReads g old new → LeavesOnly g old new P
  leaves_read old new P told reads clock image le left = inl (reads.images told clock image le left)

  -- what a crash now leaves after some calls, it could have left before them, or it has P
  pub leaves_now : CountsNow g → OnlyNow g → g.tells → (old new : D) (P : List ℕ → Type 0) → g.clock old ≤ g.clock new
      → LeavesOnly g old new P → (image : List ℕ) → MayLeave g new image → MayLeave g old image ⊎ P image
  leaves_now counts only told old new P le leaves image left =
      ⊎_elim (λ was. inl (only old image told was)) (λ has. inr has)
      (leaves (g.clock old) image (omega arith) (counts new (g.clock old) image told le left))
