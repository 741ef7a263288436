-- The turn that is held, over the calls of sessions and after refusals.
use Rattle.std.specs.Prelude.{Option, None, Result, Ok, Err}
use Rattle.std.proofs.Common.{◌≡◌, ◌≤◌, ℕ, refl, sym, ◌∙◌, subst}
use Rattle.media_disk.specs.declared.device.Device.{Ghosts}
use Rattle.hse_rows.specs.machine.Turn as machine
use Rattle.hse_rows.specs.machine.Replies.{Refusal, Answer}
use Rattle.hse_rows.specs.machine.Calls.{Call}
use Rattle.hse_rows.specs.machine.Core.{Core, number_of}
use Rattle.hse_rows.specs.machine.CoreRefusal.{unless_busy, refusal}
use Rattle.hse_rows.specs.machine.CoreDone.{done}
use Rattle.engine_state.specs.Keeping.{CallsKeepSound}
use Rattle.engine_state.specs.Serves.{IsSound}
use Rattle.kvdb.specs.Growth.{Grows, IsSession}
use Rattle.kvdb.specs.Serves.{Serves}
use Rattle.kvdb.specs.Steps as engine
use Rattle.kvdb.specs.Turns.{TurnOf, RanOf}
use Rattle.kvdb.specs.declared.engine.Kvdb.{Kvdb}
use Rattle.kvdb.specs.declared.turn.Turn.{Turn}
use Rattle.kvdb.specs.declared.turn.Ran.{Ran}
use Rattle.kvdb.specs.laws.Sessions.{session_grows}
use Rattle.kvdb.specs.laws.Turns.{turn_grown, ran_grown}
use Rattle.turn_phases.specs.declared.held.Held.{Held}
use Rattle.turn_phases.specs.declared.held.Held.TheVariants as held
use Rattle.turn_phases.specs.declared.phases.TurnPhases.{TurnPhases}
use Rattle.turn_phases.specs.Serves.{HeldIs, PhasesServe}
use Rattle.turn_phases.specs.Steps.{Steps}

-- ---- what is held

pub held_nothing : {D : Type 0} (g : Ghosts D) (h : Held D g) (m : Core) → h ≡ held.Nothing → HeldIs g h m → m.turn ≡ machine.home
held_nothing {D = D} g h m is held_is = subst (λ (x : Held D g). HeldIs g x m) is held_is

pub held_taken : {D : Type 0} (g : Ghosts D) (h : Held D g) (turn : Turn D g) (m : Core) → h ≡ held.Taken turn → HeldIs g h m → TurnOf g turn m
held_taken {D = D} g h turn m is held_is = subst (λ (x : Held D g). HeldIs g x m) is held_is

pub held_run : {D : Type 0} (g : Ghosts D) (h : Held D g) (ran : Ran D g) (m : Core) → h ≡ held.Run ran → HeldIs g h m → RanOf g ran m
held_run {D = D} g h ran m is held_is = subst (λ (x : Held D g). HeldIs g x m) is held_is

pub held_home : {D : Type 0} (g : Ghosts D) (h : Held D g) (m : Core) → m.turn ≡ machine.home → HeldIs g h m → h ≡ held.Nothing
held_home g held.Nothing m at is = refl
held_home g (held.Taken turn) m at is = absurd (let e : machine.home ≡ machine.taken is.out = sym at ∙ is.phase in cc)
held_home g (held.Run done) m at is = absurd (let e : machine.home ≡ machine.ran is.out done.has_failed = sym at ∙ is.phase in cc)

-- ---- calls of sessions

held_grown : {D : Type 0} (g : Ghosts D) (h : Held D g) (m then : Core) → Grows m then → m.timeline.base.number ≤ m.safe → m.safe ≤ number_of m
    → HeldIs g h m → HeldIs g h then
held_grown g held.Nothing m then grows from until is = grows.turn ∙ is
held_grown g (held.Taken turn) m then grows from until is = turn_grown m then grows from until g turn is
held_grown g (held.Run ran) m then grows from until is = ran_grown m then grows from until g ran is

pub serve_by : {D : Type 0} (g : Ghosts D) (new : TurnPhases D g) (db : Kvdb D g) (h : Held D g) (m : Core) → new.db ≡ db → new.held ≡ h
    → Serves g db m → IsSound m → HeldIs g h m → PhasesServe g new m
serve_by {D = D} g new db h m same_db same_held serves sound is = record {
  engine = subst (λ (x : Kvdb D g). Serves g x m) (sym same_db) serves;
  sound = sound;
  turn = subst (λ (x : Held D g). HeldIs g x m) (sym same_held) is;
}

pub serve_same : {D : Type 0} (g : Ghosts D) (old new : TurnPhases D g) (m : Core) → new.db ≡ old.db → new.held ≡ old.held → PhasesServe g old m → PhasesServe g new m
serve_same g old new m same_db same_held s = serve_by g new old.db old.held m same_db same_held s.engine s.sound s.turn

pub session_done : {D : Type 0} (g : Ghosts D) (m : Core) (call : Call) (old new : TurnPhases D g) → CallsKeepSound → IsSession call → new.held ≡ old.held
    → PhasesServe g old m → refusal m call ≡ None → Serves g new.db (done m call) → PhasesServe g new (done m call)
session_done g m call old new keeps is same s unrefused serves =
    serve_by g new new.db old.held (done m call) refl same serves (keeps m call s.sound unrefused)
    (held_grown g old.held m (done m call) (session_grows m call is) s.sound.limits.since_base s.sound.limits.until_now s.turn)

pub stepped : {D X F : Type 0} (g : Ghosts D) (told : X → Answer ℕ) (Says : F → Option (Refusal ℕ) → Type 0) (m : Core) (call : Call) (result : Result X F)
    (old new : TurnPhases D g) → CallsKeepSound → IsSession call → new.held ≡ old.held → PhasesServe g old m
    → engine.Steps g told Says m call result new.db → Steps g told Says m call result new
stepped g told Says m call (Ok x) old new keeps is same s step = record {
  unrefused = step.unrefused;
  replied = step.replied;
  serves = session_done g m call old new keeps is same s step.unrefused step.serves;
}
stepped g told Says m call (Err fault) old new keeps is same s step =
    (step.0, serve_by g new new.db old.held m refl same step.1 s.sound s.turn)

-- no turn is out where a call waits for none
pub home_of : (t : machine.Turn) → unless_busy t None ≡ None → t ≡ machine.home
home_of machine.home is = refl
home_of (machine.taken turn) is = absurd cc
home_of (machine.ran turn has_failed) is = absurd cc
