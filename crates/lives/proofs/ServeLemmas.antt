-- What is served after a call that adds no mark.
use Rattle.std.specs.Prelude.{Option, Some, None, Result, Ok, Err}
use Rattle.std.proofs.Common.{◌≡◌, ℕ, ◌≤◌, List, [], ◌∷◌, length, refl, sym, ap, ◌∙◌, subst, true, arith}
use Rattle.hse_io.specs.declared.outcome.Mark.{Mark}
use Rattle.media_disk.specs.Leaves.{LeavesOnly}
use Rattle.media_disk.specs.declared.device.Device.{Ghosts}
use Rattle.hse_rows.specs.states.State.{Store, store_named}
use Rattle.hse_rows.specs.states.History.{creates, drops}
use Rattle.hse_rows.specs.machine.Sizes.{Sizes}
use Rattle.hse_rows.specs.machine.Limits.{TurnFits}
use Rattle.hse_rows.specs.machine.Turn.{TurnWish, sync, freeze, create, drop, Turn, home, taken, ran}
use Rattle.hse_rows.specs.machine.Replies.{Refusal, Answer}
use Rattle.hse_rows.specs.machine.Calls.{Call}
use Rattle.hse_rows.specs.machine.Calls as calls
use Rattle.hse_rows.specs.machine.Turn as turns
use Rattle.hse_rows.specs.transactions.Moves as moves
use Rattle.hse_rows.specs.transactions.Timeline.{for_some}
use Rattle.hse_rows.specs.machine.ManifestEntry.{drop_entry, entered}
use Rattle.hse_rows.specs.machine.Core.{Core, now, number_of, with_move}
use Rattle.hse_rows.specs.machine.CoreDone.{done, taking, with_turn}
use Rattle.engine_state.specs.Serves.{IsSound, handed, handed_by}
use Rattle.kvdb.specs.Found.{StoresFrom}
use Rattle.kvdb.specs.Growth.{IsSession}
use Rattle.kvdb.specs.laws.Sessions.{session_grows}
use Rattle.turn_phases.specs.Devices.{device_of}
use Rattle.turn_phases.specs.Serves.{PhasesServe}
use Rattle.turn_phases.specs.Steps as engine
use Rattle.turn_phases.specs.Turns as engine_turns
use Rattle.turn_phases.specs.declared.faults.RunFault.{RunFault}
use Rattle.turn_phases.specs.declared.faults.RunFault.TheVariants as run_fault
use Rattle.lives.specs.Goes.{Goes}
use Rattle.lives.specs.Keeping.{Keeps}
use Rattle.lives.specs.Marks.{Marked}
use Rattle.lives.specs.Serves.{LivesServe}
use Rattle.lives.specs.Steps.{Steps}
use Rattle.lives.specs.Stories.{Story, with_machine, stepped}
use Rattle.lives.specs.Turns.{Writes}
use Rattle.lives.specs.declared.run.Lives.{Lives}
use Rattle.lives.proofs.MarkLemmas.{marked_goes, marked_stays}
use Rattle.lives.proofs.StoryLemmas.{goes_grown, goes_on, goes_still, keeps_from}

-- ---- in general

-- the device stays
pub served : {D : Type 0} (g : Ghosts D) (old new : Lives D g) (s to : Story) → new.life ≡ old.life → new.marks.items ≡ old.marks.items
    → device_of new.phases ≡ device_of old.phases → to.past ≡ s.past → to.marked ≡ s.marked → Goes s to → PhasesServe g new.phases to.machine
    → LivesServe g old s → LivesServe g new to
served {D = D} g old new s to life marks device past points goes phases l = record {
  phases = phases;
  life = life ∙ l.life ∙ ap (λ lives. length lives) (sym past);
  marked = subst (λ (d : D). Marked g d new.marks.items to) (sym device)
      (subst (λ (ms : List Mark). Marked g (device_of old.phases) ms to) (sym marks)
      (marked_stays g (device_of old.phases) s to old.marks.items goes points l.marked));
}

-- A crash within leaves what is kept.
pub served_over : {D : Type 0} (g : Ghosts D) (old new : Lives D g) (P : List ℕ → Type 0) (s to : Story) → new.life ≡ old.life
    → new.marks.items ≡ old.marks.items → to.past ≡ s.past → to.marked ≡ s.marked → Goes s to
    → g.clock (device_of old.phases) ≤ g.clock (device_of new.phases)
    → (g.tells → LeavesOnly g (device_of old.phases) (device_of new.phases) P)
    → (g.tells → (image : List ℕ) → P image → Keeps to (length s.past) s.machine.safe image)
    → PhasesServe g new.phases to.machine → LivesServe g old s → LivesServe g new to
served_over g old new P s to life marks past points goes le leaves keeps phases l = record {
  phases = phases;
  life = life ∙ l.life ∙ ap (λ lives. length lives) (sym past);
  marked = subst (λ (ms : List Mark). Marked g (device_of new.phases) ms to) (sym marks)
      (marked_goes g (device_of old.phases) (device_of new.phases) P s to old.marks.items goes points le leaves keeps l.marked);
}

-- ---- steps without a device call

steps_with : {D X F : Type 0} (g : Ghosts D) (told : X → Answer ℕ) (Says : F → Option (Refusal ℕ) → Type 0) (s : Story) (call : Call) (result : Result X F)
    (old new : Lives D g) → Goes s (stepped s call) → Goes s s → new.life ≡ old.life → new.marks.items ≡ old.marks.items
    → device_of new.phases ≡ device_of old.phases → LivesServe g old s
    → engine.Steps g told Says s.machine call result new.phases → Steps g told Says s call result new
steps_with g told Says s call (Ok x) old new goes still life marks device l step = record {
  unrefused = step.unrefused;
  replied = step.replied;
  serves = served g old new s (stepped s call) life marks device refl refl goes step.serves l;
}
steps_with g told Says s call (Err fault) old new goes still life marks device l step =
    (step.0, served g old new s s life marks device refl refl still step.1 l)

pub session_steps : {D X F : Type 0} (g : Ghosts D) (told : X → Answer ℕ) (Says : F → Option (Refusal ℕ) → Type 0) (s : Story) (call : Call) (result : Result X F)
    (old new : Lives D g) → IsSession call → new.life ≡ old.life → new.marks.items ≡ old.marks.items
    → device_of new.phases ≡ device_of old.phases → LivesServe g old s
    → engine.Steps g told Says s.machine call result new.phases → Steps g told Says s call result new
session_steps g told Says s call result old new is life marks device l step =
    steps_with g told Says s call result old new (goes_grown s (done s.machine call) (session_grows s.machine call is))
    (goes_still s s.machine s.marked refl (omega arith)) life marks device l step

goes_taking : (s : Story) (what : TurnWish) → Goes s (with_machine s (taking s.machine what))
goes_taking s sync = goes_still s _ s.marked refl (omega arith)
goes_taking s freeze = goes_still s _ s.marked refl (omega arith)
goes_taking s (create name mode prefix) = goes_on s _ s.marked (creates name mode prefix ∷ []) refl refl (omega arith)
goes_taking s (drop name) = by (store_named (now s.machine) name)
  where
    by : (found : Option Store) → Goes s (with_machine s (for_some found s.machine (λ store.
        with_turn (with_move s.machine (moves.remove store.id)) turns.dropping
        (turns.removes store.id (entered s.machine (drop_entry s.machine store))) true)))
    by None = goes_still s s.machine s.marked refl (omega arith)
    by (Some store) = goes_on s _ s.marked (drops store.id ∷ []) refl refl (omega arith)

pub taking_steps : {D X F : Type 0} (g : Ghosts D) (told : X → Answer ℕ) (Says : F → Option (Refusal ℕ) → Type 0) (s : Story) (what : TurnWish) (result : Result X F)
    (old new : Lives D g) → new.life ≡ old.life → new.marks.items ≡ old.marks.items
    → device_of new.phases ≡ device_of old.phases → LivesServe g old s
    → engine.Steps g told Says s.machine (calls.take what) result new.phases → Steps g told Says s (calls.take what) result new
taking_steps g told Says s what result old new life marks device l step =
    steps_with g told Says s (calls.take what) result old new (goes_taking s what)
    (goes_still s s.machine s.marked refl (omega arith)) life marks device l step

-- ---- the device calls of a turn

handed_fits : (sizes : Sizes) (safe number : ℕ) (turn : Turn) → safe ≤ number → TurnFits sizes safe number turn → handed_by safe turn ≤ number
handed_fits sizes safe number home le fits = le
handed_fits sizes safe number (taken turn) le fits = fits.1
handed_fits sizes safe number (ran turn has_failed) le fits = fits.1

pub handed_within : (m : Core) → IsSound m → handed m ≤ number_of m
handed_within m sound = handed_fits m.sizes m.safe (number_of m) m.turn sound.limits.until_now sound.limits.turn

pub writes : {D : Type 0} (g : Ghosts D) (s : Story) (result : Result (Unit {0}) RunFault) (old new : Lives D g) → new.life ≡ old.life
    → new.marks.items ≡ old.marks.items → g.clock (device_of old.phases) ≤ g.clock (device_of new.phases)
    → (g.tells → LeavesOnly g (device_of old.phases) (device_of new.phases) (StoresFrom s.machine (handed s.machine)))
    → LivesServe g old s → engine_turns.Writes g s.machine result new.phases → Writes g s result new
writes {D = D} g s result old new life marks le leaves l w = by result w
  where
    moved : (m : Core) → m.timeline ≡ s.machine.timeline → s.machine.safe ≤ m.safe → PhasesServe g new.phases m → LivesServe g new (with_machine s m)
    moved m same safer phases =
        served_over g old new (StoresFrom s.machine (handed s.machine)) s (with_machine s m) life marks refl refl
        (goes_still s m s.marked same safer) le leaves
        (λ told image has. keeps_from (with_machine s m) s.machine (handed s.machine) s.machine.safe image (sym same)
        l.phases.sound.limits.since_base (handed_within s.machine l.phases.sound) (omega arith) has) phases l

    by : (r : Result (Unit {0}) RunFault) → engine_turns.Writes g s.machine r new.phases → Writes g s r new
    by (Ok done) x = record {
      unrefused = x.unrefused;
      replied = x.replied;
      serves = moved _ refl (omega arith) x.serves;
    }
    by (Err (run_fault.Phase phase)) x = (x.0, moved s.machine refl (omega arith) x.1)
    by (Err run_fault.Device) x = (x.0, x.1, moved _ refl (omega arith) x.2)
