-- A next life begins, or none does; and the first one.
use Rattle.std.specs.Prelude.{Bool, true, false, Some, None, Ok, Err, take}
use Rattle.std.proofs.Common.{◌≡◌, ℕ, ◌+◌, ◌-◌, ◌^◌, ◌<◌, ◌≤◌, List, [], ◌∷◌, length, refl, sym, ap, ◌∙◌, subst, inl, arith, length-append}
use Rattle.std.proofs.lemmas.List.{length-take}
use Rattle.hse_io.specs.declared.outcome.Mark.{Mark}
use Rattle.media_disk.specs.Leaves.{LeavesOnly}
use Rattle.media_disk.specs.laws.Calls.{calls_started}
use Rattle.media_disk.specs.declared.device.Device.{Ghosts}
use Rattle.hse_rows.specs.states.State.{State}
use Rattle.hse_rows.specs.states.History.{Event, fold, last_number}
use Rattle.hse_rows.specs.laws.Folding.{folded-number}
use Rattle.hse_io.specs.Faults.{next_count}
use Rattle.hse_rows.specs.machine.Turn.{Turn, home, taken, ran}
use Rattle.hse_rows.specs.machine.CoreRefusal.{unless_busy}
use Rattle.hse_rows.specs.machine.Calls.{reopen}
use Rattle.hse_rows.specs.machine.Core.{Core, Stored, formatted, life, number_of}
use Rattle.hse_rows.specs.machine.CoreDone.{failing}
use Rattle.hse_rows.specs.machine.Sizes.{default_sizes}
use Rattle.recovery.specs.Keeps as Keeping
use Rattle.recovery.specs.Keeps.{IsBarrier}
use Rattle.recovery.specs.Machine.{stored_of}
use Rattle.recovery.specs.declared.fault.OpenFault.TheVariants.{NotFormed, Version, Device, NoMemory}
use Rattle.engine_state.specs.Serves.{IsSound}
use Rattle.kvdb.specs.Found.{StoresFrom, stored_at}
use Rattle.kvdb.specs.Opening.{LeavesDevice, Prepares}
use Rattle.kvdb.specs.Sides.{clock_in, device_in, out_of}
use Rattle.kvdb.specs.declared.side.Side.{Side}
use Rattle.kvdb.specs.declared.side.Side.TheVariants as side
use Rattle.kvdb.specs.Reopening.{last_by, last_left}
use Rattle.kvdb.specs.declared.reopening.ReopenFault.{ReopenFault}
use Rattle.kvdb.specs.declared.reopening.ReopenFault.TheVariants as fault
use Rattle.turn_phases.specs.Devices.{device_at, device_of}
use Rattle.turn_phases.specs.HeldTurns.{turn_of}
use Rattle.turn_phases.specs.declared.held.Held.{Held}
use Rattle.turn_phases.specs.Reopening as engine
use Rattle.turn_phases.specs.Serves.{PhasesServe}
use Rattle.turn_phases.specs.Starting as engine_opening
use Rattle.turn_phases.specs.declared.phases.TurnPhases.{TurnPhases}
use Rattle.lives.specs.Marks.{Marked}
use Rattle.lives.specs.Openings.{Opens, Reborn, Reopens}
use Rattle.lives.specs.Serves.{LivesServe, Notes}
use Rattle.lives.specs.Stories.{Story, life_of, reopened, started, with_machine}
use Rattle.lives.specs.declared.faults.Unmarked.TheVariants as unmarked
use Rattle.lives.specs.declared.run.Lives.{Lives}
use Rattle.lives.proofs.EndLemmas.{home_in, is_mark, noted_at}
use Rattle.lives.proofs.ServeLemmas.{served_over}
use Rattle.lives.proofs.StoryLemmas.{goes_reborn, goes_still, keeps_from, keeps_goes}

-- ---- what the device may have of the life that ends

last_within_by : (m : Core) (broken : Bool) → m.safe ≤ number_of m → last_by m broken ≤ number_of m
last_within_by m false le = le
last_within_by m true le = omega arith

last_within : (m : Core) → IsSound m → last_left m ≤ number_of m
last_within m sound = last_within_by m m.is_broken sound.limits.until_now

fold_number : (base : State) (events : List Event) (number : ℕ) → base.number ≤ number → number ≤ last_number base events
    → (fold base events number).number ≡ number
fold_number base events number from within =
    let known : (fold base events number).number ≡ base.number + length (take (number - base.number) events) =
    folded-number base (take (number - base.number) events) in
    omega (arith, known, length-take (number - base.number) events)

-- ---- in place

module _ {D : Type 0} (g : Ghosts D) (s : Story) (mid : Lives D g) (l : LivesServe g mid s) where
  abbrev Crash : Lives D g → Type 0
  Crash new = g.tells → LeavesOnly g (device_of mid.phases) (device_of new.phases) (StoresFrom s.machine (last_left s.machine))

  -- the life goes on
  stays : (new : Lives D g) (m : Core) → new.life ≡ mid.life → new.marks.items ≡ mid.marks.items
      → g.clock (device_of mid.phases) ≤ g.clock (device_of new.phases) → Crash new → m.timeline ≡ s.machine.timeline → m.safe ≡ s.machine.safe
      → PhasesServe g new.phases m → LivesServe g new (with_machine s m)
  stays new m life marks le crash same safe phases =
      served_over g mid new (StoresFrom s.machine (last_left s.machine)) s (with_machine s m) life marks refl refl
      (goes_still s m s.marked same (omega (arith, safe))) le crash
      (λ told image has. keeps_from (with_machine s m) s.machine (last_left s.machine) s.machine.safe image (sym same)
      l.phases.sound.limits.since_base (last_within s.machine l.phases.sound) (omega arith) has) phases l

  later : (new : Lives D g) (why : ReopenFault) → engine.ReadsDevice g (device_of mid.phases) (device_of new.phases) (Err why)
      → g.clock (device_of mid.phases) ≤ g.clock (device_of new.phases)
  later new (fault.Busy kind) reads = let same : g.clock (device_of new.phases) ≡ g.clock (device_of mid.phases) = ap (λ (d : D). g.clock d) reads in omega (arith, same)
  later new (fault.Open why) reads = reads.0.forward

  pub not_reopened : (new : Lives D g) (why : ReopenFault) → new.life ≡ mid.life → new.marks.items ≡ mid.marks.items
      → engine.ReadsDevice g (device_of mid.phases) (device_of new.phases) (Err why) → Crash new
      → engine.Reopens g s.machine (Err why) new.phases → Reopens g s (Err (unmarked.Fault why)) new
  not_reopened new (fault.Busy kind) life marks reads crash r =
      (r.0, stays new s.machine life marks (later new (fault.Busy kind) reads) crash refl refl r.1)
  not_reopened new (fault.Open (NotFormed region place)) life marks reads crash r =
      (r.0, (r.1.0, stays new s.machine life marks (later new (fault.Open (NotFormed region place)) reads) crash refl refl r.1.1))
  not_reopened new (fault.Open (Version version)) life marks reads crash r =
      (r.0, (r.1.0, stays new s.machine life marks (later new (fault.Open (Version version)) reads) crash refl refl r.1.1))
  not_reopened new (fault.Open Device) life marks reads crash r =
      (r.0, stays new (failing s.machine reopen) life marks (later new (fault.Open Device) reads) crash refl refl r.1)
  not_reopened new (fault.Open NoMemory) life marks reads crash r =
      (r.0, stays new s.machine life marks (later new (fault.Open NoMemory) reads) crash refl refl r.1)

  -- a next one begins
  pub begun_again : (between new : Lives D g) (number moment : ℕ) → between.life ≡ mid.life → between.marks.items ≡ mid.marks.items
      → g.clock (device_of mid.phases) ≤ moment → Crash between → IsBarrier g (device_of mid.phases) (device_of between.phases) moment
      → engine.Reborn g s.machine number between.phases → Notes between new (between.life + 1) number moment → g.tells → Reborn g s number new
  begun_again between new number moment counted marks from crash barrier r n told =
      let stored = stored_at s.machine number in
      let named : stored.base.number ≡ number =
      fold_number s.machine.timeline.base s.machine.timeline.history number (omega (arith, l.phases.sound.limits.since_base, r.reaches))
      (omega (arith, r.within, last_within s.machine l.phases.sound)) in
      let goes = goes_reborn s (life (stored_at s.machine number)) (reopened s number).marked (omega (arith, named, r.reaches)) in
      record {
        reaches = r.reaches;
        within = r.within;
        serves = noted_at g s (reopened s number) (between.life + 1) number moment mid between new (StoresFrom s.machine (last_left s.machine)) marks
            (omega (arith, counted, l.life, length-append s.past (life_of s.machine ∷ []))) from barrier.past crash
            (λ told image has. keeps_goes s (reopened s number) (length s.past) s.machine.safe image goes
            (keeps_from s s.machine (last_left s.machine) s.machine.safe image refl l.phases.sound.limits.since_base (last_within s.machine l.phases.sound) (omega arith) has))
            refl goes refl refl (sym named) r.serves barrier.since n l;
      }

-- ---- the first life

some_is : {D : Type 0} (one other : D) → Some one ≡ Some other → one ≡ other
some_is one other is = cc

pub placed : {D : Type 0} (g : Ghosts D) (s : Side D g) (h : Held D g) (paired : out_of s ≡ turn_of h) (disk : D) → device_in s ≡ Some disk → device_at s h paired ≡ disk
placed g (side.In back) h paired disk is = some_is back.disk disk is
placed g (side.Out what number) h paired disk is = absurd cc

begun : {D : Type 0} (g : Ghosts D) (lives : Lives D g) (stored : Stored) (number moment : ℕ) (old new : D) → lives.life ≡ 0
    → lives.marks.items ≡ record { life = 0; number = number; moment = moment } ∷ [] → number ≡ lives.phases.db.state.view.number
    → device_in lives.phases.db.side ≡ Some new → IsBarrier g old new moment → PhasesServe g lives.phases (life stored) → LivesServe g lives (started stored)
begun {D = D} g lives stored number moment old new none items named place barrier serves =
    let mark : Mark = record { life = 0; number = number; moment = moment } in
    let at : device_of lives.phases ≡ new = placed g lives.phases.db.side lives.phases.held lives.phases.paired new place in
    let here : IsBarrier g old (device_of lives.phases) moment = subst (λ (d : D). IsBarrier g old d moment) (sym at) barrier in
    let first : number ≡ stored.base.number = named ∙ ap (λ (state : State). state.number) serves.engine.state.view.state in
    record {
      phases = serves;
      life = none;
      marked = subst (λ (ms : List Mark). Marked g (device_of lives.phases) ms (started stored)) (sym items) (record {
        marks_are = record {
          points_are = ap (λ (n : ℕ). record { life = 0; number = n } ∷ []) first;
          rise = (omega arith, here.past);
        };
        kept = λ told. (is_mark g lives.phases (started stored) mark serves refl refl refl first here.past here.since told, tt);
      });
    }

pub opened : {D : Type 0} (g : Ghosts D) (image : List ℕ) (lives : Lives D g) (number moment : ℕ) (old new : D) → lives.life ≡ 0
    → lives.marks.items ≡ record { life = 0; number = number; moment = moment } ∷ [] → number ≡ lives.phases.db.state.view.number
    → device_in lives.phases.db.side ≡ Some new → IsBarrier g old new moment → engine_opening.Opens g image (Ok lives.phases) → Opens g image (Ok lives)
opened g [] lives number moment old new none items named place barrier is =
    begun g lives (formatted default_sizes) number moment old new none items named place barrier is
opened g (byte ∷ bytes) lives number moment old new none items named place barrier is = record {
  loaded = is.loaded;
  is = is.is;
  serves = begun g lives (stored_of is.loaded) number moment old new none items named place barrier is.serves;
}

-- ---- no room for the first marks

keeps_same : {D : Type 0} (g : Ghosts D) (disk : D) → Keeping.Keeps g disk disk
keeps_same g disk = record {
  seen = λ told. refl;
  images = λ told image may. may;
  crash = λ told clock image le left. inl left;
  extent = λ some. refl;
  still = λ told none. none;
}

pub untouched : {D : Type 0} (g : Ghosts D) (disk : D) → LeavesDevice g disk (Err (disk, NoMemory))
untouched g disk = record {
  between = disk;
  made = Err NoMemory;
  prepared = λ told. by (g.seen disk);
  asked = λ told some. refl;
  reached = calls_started g disk;
  tied = refl;
  new = disk;
  left = refl;
  went_on = calls_started g disk;
  calls = calls_started g disk;
  reports = refl;
  keeps = keeps_same g disk;
  barrier = tt;
}
  where
    by : (bytes : List ℕ) → Prepares g bytes disk disk (Err NoMemory)
    by [] = tt
    by (byte ∷ bytes) = keeps_same g disk

-- ---- the clock behind the barrier

home_of : (turn : Turn) → unless_busy turn None ≡ None → turn ≡ home
home_of home is = refl
home_of (taken turn) is = absurd cc
home_of (ran turn has_failed) is = absurd cc

pub clock_home : {D : Type 0} (g : Ghosts D) (phases : TurnPhases D g) (m : Core) → unless_busy m.turn None ≡ None → PhasesServe g phases m
    → clock_in g phases.db.side ≡ Some (g.clock (device_of phases))
clock_home {D = D} g phases m none p =
    let h = home_in g phases m (home_of m.turn none) p in
    h.clock ∙ ap (λ (d : D). Some (g.clock d)) (sym h.device)

pub next_later : (clock moment : ℕ) → clock < 2 ^ 64 → moment ≡ next_count clock → clock ≤ moment
next_later clock moment small is = grind (arith, is, small)
