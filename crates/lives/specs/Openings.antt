-- The first life begins, and a next one.
use Rattle.std.specs.Prelude.{◌≡◌, ℕ, ◌≤◌, List, [], ◌∷◌, Some, None, Result, Ok, Err}
use Rattle.media_disk.specs.declared.device.Device.{Ghosts}
use Rattle.hse_rows.specs.machine.Calls.{reopen}
use Rattle.hse_rows.specs.machine.Core.{formatted}
use Rattle.hse_rows.specs.machine.CoreRefusal.{refusal}
use Rattle.hse_rows.specs.machine.Replies.{busy}
use Rattle.hse_rows.specs.machine.Sizes.{default_sizes}
use Rattle.recovery.specs.Answers.{IsRecovery}
use Rattle.recovery.specs.Image.{Loaded, IsLoaded}
use Rattle.recovery.specs.Machine.{stored_of}
use Rattle.recovery.specs.declared.fault.OpenFault.{OpenFault}
use Rattle.recovery.specs.declared.fault.OpenFault.TheVariants.{NotFormed, Version, Device, NoMemory}
use Rattle.kvdb.specs.Opening.{IsOfDevice}
use Rattle.kvdb.specs.Reopening.{last_left}
use Rattle.kvdb.specs.Sides.{kind_as}
use Rattle.kvdb.specs.declared.engine.Kvdb.{Kvdb}
use Rattle.kvdb.specs.declared.reopening.ReopenFault.{ReopenFault}
use Rattle.kvdb.specs.declared.reopening.ReopenFault.TheVariants as fault
use Rattle.turn_phases.specs.Reopening as engine
use Rattle.lives.specs.Serves.{LivesServe}
use Rattle.lives.specs.Stories.{Story, failed, reopened, started}
use Rattle.lives.specs.declared.faults.Unmarked.{Unmarked}
use Rattle.lives.specs.declared.faults.Unmarked.TheVariants as unmarked
use Rattle.lives.specs.declared.run.Lives.{Lives}

-- ---- the first life

-- the answer of the engine's own opening
abbrev pub engine_of : {D : Type 0} {g : Ghosts D} → Result (Lives D g) (D × OpenFault) → Result (Kvdb D g) (D × OpenFault)
engine_of (Ok lives) = Ok lives.phases.db
engine_of (Err left) = Err left

-- The image is formed, and the first life begins at what it stores.
pub record Starts {D : Type 0} (g : Ghosts D) (image : List ℕ) (lives : Lives D g) : Type 0 where
  pub loaded : Loaded
  pub is : IsLoaded image loaded
  pub serves : LivesServe g lives (started (stored_of loaded))

-- A life, or why the image is refused, as a recovery answers it. An empty device is a new one then.
abbrev pub Opens : {D : Type 0} (g : Ghosts D) → List ℕ → Result (Lives D g) (D × OpenFault) → Type 0
Opens g [] (Ok lives) = LivesServe g lives (started (formatted default_sizes))
Opens g [] (Err (disk, fault)) = IsOfDevice fault
Opens g (byte ∷ bytes) (Ok lives) = Starts g (byte ∷ bytes) lives
Opens g (byte ∷ bytes) (Err (disk, fault)) = IsRecovery (byte ∷ bytes) (Err fault)

-- ---- a next one

-- The life begins at what the device has of the last one, at a number that it may store.
pub record Reborn {D : Type 0} (g : Ghosts D) (s : Story) (number : ℕ) (new : Lives D g) : Type 0 where
  pub reaches : s.machine.safe ≤ number
  pub within : number ≤ last_left s.machine
  pub serves : LivesServe g new (reopened s number)

-- Where the device tells its content it is formed. After a fault of it the engine is broken, after another one as before.
abbrev pub StaysAfter : {D : Type 0} (g : Ghosts D) → Story → OpenFault → Lives D g → Type 0
StaysAfter g s (NotFormed region place) new = (g.tells → ⊥) × LivesServe g new s
StaysAfter g s (Version version) new = (g.tells → ⊥) × LivesServe g new s
StaysAfter g s Device new = LivesServe g new (failed s reopen)
StaysAfter g s NoMemory new = LivesServe g new s

-- A next life, with a mark; or the machine's refusal; or what the opening answered; or there was no room for a mark.
abbrev pub Reopens : {D : Type 0} (g : Ghosts D) → Story → Result ℕ (Unmarked ReopenFault) → Lives D g → Type 0
Reopens g s (Ok number) new = (refusal s.machine reopen ≡ None) × (g.tells → Reborn g s number new)
Reopens g s (Err (unmarked.Fault (fault.Busy kind))) new =
    (refusal s.machine reopen ≡ Some (busy (kind_as kind))) × LivesServe g new s
Reopens g s (Err (unmarked.Fault (fault.Open why))) new =
    (refusal s.machine reopen ≡ None) × StaysAfter g s why new
Reopens g s (Err unmarked.NoMemory) new = LivesServe g new s

-- Nothing is written, and it failed exactly where the answer says so.
abbrev pub ReadsDevice : {D : Type 0} (g : Ghosts D) → D → D → Result ℕ (Unmarked ReopenFault) → Type 0
ReadsDevice g old new (Ok number) = engine.ReadsDevice g old new (Ok number)
ReadsDevice g old new (Err (unmarked.Fault fault)) = engine.ReadsDevice g old new (Err fault)
ReadsDevice g old new (Err unmarked.NoMemory) = new ≡ old
