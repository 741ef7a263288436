-- What was safe since when, and what a crash leaves since then.
use Rattle.std.specs.Prelude.{◌≡◌, ℕ, ◌≤◌, List, [], ◌∷◌, length, map}
use Rattle.std.specs.List.{AllByRecursion}
use Rattle.hse_io.specs.declared.outcome.Mark.{Mark}
use Rattle.media_disk.specs.Images.{MayLeave}
use Rattle.media_disk.specs.declared.device.Device.{Ghosts}
use Rattle.lives.specs.Keeping.{Keeps}
use Rattle.lives.specs.Stories.{Point, Story}

-- Whatever a crash since the mark's moment might have left stores a life from the mark's on, from its number on.
pub record IsMark (could : ℕ → List ℕ → Type 0) (clock : ℕ) (s : Story) (mark : Mark) : Type 0 where
  pub past : mark.moment ≤ clock
  pub lived : mark.life ≤ length s.past
  pub synced : mark.number ≤ s.machine.safe
  pub kept : (image : List ℕ) → could mark.moment image → Keeps s mark.life mark.number image

abbrev pub point_of : Mark → Point
point_of mark = record { life = mark.life; number = mark.number }

-- the moments do not fall, from this clock to that one
abbrev pub Rise : ℕ → List Mark → ℕ → Type 0
Rise from [] to = from ≤ to
Rise from (mark ∷ marks) to = (from ≤ mark.moment) × Rise mark.moment marks to

-- The marks have these lives and numbers, in order.
pub record AreMarks (marks : List Mark) (points : List Point) (clock : ℕ) : Type 0 where
  pub points_are : map point_of marks ≡ points
  pub rise : Rise 0 marks clock

-- They are those of the story, and each holds of the device.
pub record Marked {D : Type 0} (g : Ghosts D) (disk : D) (marks : List Mark) (s : Story) : Type 0 where
  pub marks_are : AreMarks marks s.marked (g.clock disk)
  pub kept : g.tells → AllByRecursion (IsMark (g.could disk) (g.clock disk) s) marks

-- Whatever a crash now may leave stores a life from each mark on.
abbrev pub Left : {D : Type 0} (g : Ghosts D) → D → List Mark → Story → Type 0
Left g disk marks s =
    g.tells → (image : List ℕ) → MayLeave g disk image
    → AllByRecursion (λ (mark : Mark). Keeps s mark.life mark.number image) marks
