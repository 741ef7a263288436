-- Which stories an engine and its marks stand for.
use Rattle.std.specs.Prelude.{◌≡◌, ℕ, [], ◌∷◌, ◌++◌, length}
use Rattle.media_disk.specs.declared.device.Device.{Ghosts}
use Rattle.turn_phases.specs.Devices.{device_of}
use Rattle.turn_phases.specs.Serves.{PhasesServe}
use Rattle.lives.specs.Marks.{Marked}
use Rattle.lives.specs.Stories.{Story}
use Rattle.lives.specs.declared.run.Lives.{Lives}

-- The engine serves the story's machine, the lives are counted, and the marks are the story's.
pub record LivesServe {D : Type 0} (g : Ghosts D) (lives : Lives D g) (s : Story) : Type 0 where
  pub phases : PhasesServe g lives.phases s.machine
  pub life : lives.life ≡ length s.past
  pub marked : Marked g (device_of lives.phases) lives.marks.items s

-- ---- what the calls within do

-- only room was made
pub record IsSame {D : Type 0} {g : Ghosts D} (old new : Lives D g) : Type 0 where
  pub phases : new.phases ≡ old.phases
  pub life : new.life ≡ old.life
  pub marks : new.marks.items ≡ old.marks.items

-- the marks have this one more
pub record Notes {D : Type 0} {g : Ghosts D} (old new : Lives D g) (of number moment : ℕ) : Type 0 where
  pub phases : new.phases ≡ old.phases
  pub life : new.life ≡ of
  pub marks : new.marks.items ≡ old.marks.items ++ record { life = of; number = number; moment = moment } ∷ []
