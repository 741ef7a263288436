-- What was safe since when, and what a crash leaves since then.
use Rattle.std.specs.Prelude.{◌≡◌, ◌≢◌, ℕ, ◌+◌, ◌≤◌, List, [], ◌∷◌, length, map}
use Rattle.std.specs.List.{AllByRecursion}
use Rattle.hse_io.specs.declared.outcome.Mark.{Mark}
use Rattle.media_disk.specs.Images.{IsImage}
use Rattle.media_disk.specs.declared.device.Device.{Ghosts}
use Rattle.hse_shell.specs.Machine.{Machine, base_at}
use Rattle.hse_shell.specs.Stored.{Stores}

-- The image is formed and stores the base and a prefix of the history, up to this number at least.
pub record StoresPrefix (m : Machine) (number : ℕ) (image : List ℕ) : Type 0 where
  pub count : ℕ
  pub reaches : number ≤ m.base.number + count
  pub within : count ≤ length m.history
  pub stores : Stores image (base_at m count)

-- Whatever a crash since the mark's moment might have left stores a prefix of the history from its number on.
pub record IsMark (could : ℕ → List ℕ → Type 0) (now : ℕ) (m : Machine) (mark : Mark) : Type 0 where
  pub past : mark.moment ≤ now
  pub synced : mark.number ≤ m.base.number + m.synced
  pub kept : (image : List ℕ) → could mark.moment image → StoresPrefix m mark.number image

-- the mark of a number, in the one life
abbrev pub mark_of : ℕ → ℕ → Mark
mark_of number moment = record { life = 0; number = number; moment = moment }

-- the moments do not fall, from this clock to that one
abbrev pub Rise : ℕ → List Mark → ℕ → Type 0
Rise from [] to = from ≤ to
Rise from (mark ∷ marks) to = (from ≤ mark.moment) × Rise mark.moment marks to

-- The marks have these numbers, in order; there is one at least.
pub record AreMarks (marks : List Mark) (numbers : List ℕ) (now : ℕ) : Type 0 where
  pub some : marks ≢ []
  pub numbers_are : map (λ mark. mark.number) marks ≡ numbers
  pub first_life : AllByRecursion (λ mark. mark.life ≡ 0) marks
  pub rise : Rise 0 marks now

-- What a run leaves that led to this state: its marks are the state's, and what a crash since one of them, or at the
-- end, might have left is formed and stores a prefix of the history from the mark's number on.
pub record Marked {D : Type 0} (g : Ghosts D) (disk : D) (marks : List Mark) (m : Machine) : Type 0 where
  pub marks_are : AreMarks marks m.marked (g.clock disk)
  pub kept : g.tells → AllByRecursion (IsMark (g.could disk) (g.clock disk) m) marks
  pub left : g.tells → (image : List ℕ) → IsImage (g.seen disk) (g.pending disk) image
      → AllByRecursion (λ mark. StoresPrefix m mark.number image) marks
