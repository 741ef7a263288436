-- What the device has while nothing has failed.
use Rattle.std.specs.Prelude.{◌≡◌, ◌⊎◌, ℕ, List, []}
use Rattle.std.specs.List.{AllByRecursion}
use Rattle.media_disk.specs.Images.{IsImage}
use Rattle.media_disk.specs.declared.device.Device.{Ghosts}
use Rattle.gate_log.specs.Places.{tail_of}
use Rattle.hse_shell.specs.Grammar.{Meaning}
use Rattle.hse_shell.specs.Replies.{Answer}
use Rattle.hse_shell.specs.Machine.{Machine, Step, led_to, base_at, opening}
use Rattle.hse_shell.specs.Marks.{AreMarks, IsMark}
use Rattle.hse_shell.specs.Stands.{Stands, base_in}
use Rattle.hse_shell.specs.Stored.{Stores, Begins, device_size}
use Rattle.hse_shell.specs.declared.engine.Engine.{Engine}

-- Nothing is pending, and the log says the commits that were synced.
pub record Logged (seen : List ℕ) (pending : List (ℕ × ℕ)) (gate : ℕ) (m : Machine) : Type 0 where
  pub stores : Stores seen (base_at m m.synced)
  pub tail : gate ≡ tail_of stores.loads.payloads
  pub durable : pending ≡ []

-- The engine stands for the state, the device has what was synced, and each mark holds.
pub record Serves {D : Type 0} (g : Ghosts D) (disk : D) (engine : Engine) (m : Machine) : Type 0 where
  pub stands : Stands engine m
  pub sized : g.extent disk ≡ device_size
  pub logged : g.tells → Logged (g.seen disk) (g.pending disk) engine.tail.place m
  pub marks_are : AreMarks engine.marks.items m.marked (g.clock disk)
  pub marks : g.tells → AllByRecursion (IsMark (g.could disk) (g.clock disk) m) engine.marks.items

-- The line may get this answer, and then the engine and the device serve where it leads.
pub record ServesLine {D : Type 0} (g : Ghosts D) (m : Machine) (line : Meaning) (answer : Answer) (disk : D) (engine : Engine) : Type 0 where
  pub step : Step m line answer (led_to m line answer)
  pub serves : Serves g disk engine (led_to m line answer)

-- The device was opened, and the engine goes on from what it stored.
pub record Opened {D : Type 0} (g : Ghosts D) (device disk : D) (engine : Engine) : Type 0 where
  pub begins : g.tells → Begins (g.seen device) (base_in engine)
  pub serves : Serves g disk engine (opening (base_in engine))

-- The device reads as before, and a crash leaves only what it could have left before.
pub record Stays {D : Type 0} (g : Ghosts D) (old new : D) : Type 0 where
  pub seen : g.seen new ≡ g.seen old
  pub left : (image : List ℕ) → IsImage (g.seen new) (g.pending new) image → IsImage (g.seen old) (g.pending old) image

-- A device that tells its content was empty, or stays as it was.
abbrev pub WasEmptyOrStays : {D : Type 0} → Ghosts D → D → D → Type 0
WasEmptyOrStays g old new = g.tells → (g.seen old ≡ []) ⊎ Stays g old new
