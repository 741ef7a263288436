-- What an image has of the lives of a run.
use Rattle.std.specs.Prelude.{◌≡◌, ℕ, ◌≤◌, List, Some, slice_get}
use Rattle.hse_rows.specs.states.History.{fold, last_number}
use Rattle.recovery.specs.Image.{Loaded, IsLoaded}
use Rattle.recovery.specs.Machine.{stored_of}
use Rattle.lives.specs.Stories.{Life, Story, lives_of}

-- The image is formed and stores the state of the life at a number of it, which is this one at least.
pub record StoresLife (life : Life) (low : ℕ) (image : List ℕ) : Type 0 where
  pub number : ℕ
  pub reaches : low ≤ number
  pub from : life.base.number ≤ number
  pub within : number ≤ last_number life.base life.history
  pub loaded : Loaded
  pub is : IsLoaded image loaded
  pub same : (stored_of loaded).base ≡ fold life.base life.history number

-- It does so of some life from this one on.
pub record Keeps (s : Story) (life number : ℕ) (image : List ℕ) : Type 0 where
  pub place : ℕ
  pub of : Life
  pub is : slice_get (lives_of s) place ≡ Some of
  pub later : life ≤ place
  pub stores : StoresLife of number image
