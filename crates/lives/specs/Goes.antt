-- A story goes on.
use Rattle.std.specs.Prelude.{◌≡◌, ℕ, ◌≤◌, List, ◌++◌, length, Some, slice_get}
use Rattle.hse_rows.specs.states.History.{Event}
use Rattle.lives.specs.Stories.{Life, Story, lives_of}

-- a life with more events
abbrev pub grown : Life → List Event → Life
grown life more = record life { history = life.history ++ more }

-- at this place stands this life, with more events perhaps
pub record GrowsAt (new : Story) (place : ℕ) (life : Life) : Type 0 where
  pub more : List Event
  pub is : slice_get (lives_of new) place ≡ Some (grown life more)

-- Each life of before is at its place, with more events perhaps, and what is safe does not fall.
pub record Goes (old new : Story) : Type 0 where
  pub each : (place : ℕ) (life : Life) → slice_get (lives_of old) place ≡ Some life → GrowsAt new place life
  pub lived : length old.past ≤ length new.past
  pub safer : old.machine.safe ≤ new.machine.safe
