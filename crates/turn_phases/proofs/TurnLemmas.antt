-- The phases of a turn.
use Rattle.std.specs.Prelude.{Bool, true, false, Some, None, Result, Ok, Err}
use Rattle.std.proofs.Common.{◌≡◌, ℕ, refl, sym, ap, ◌∙◌, subst}
use Rattle.media_disk.specs.Leaves.{LeavesOnly}
use Rattle.media_disk.specs.declared.device.Device.{Ghosts}
use Rattle.hse_rows.specs.machine.Turn as machine
use Rattle.hse_rows.specs.machine.Turn.{TakenTurn, TurnWish, Calls}
use Rattle.hse_rows.specs.machine.Replies.{broken, accepted, written}
use Rattle.hse_rows.specs.machine.Calls.{take, write_turn, end_turn}
use Rattle.hse_rows.specs.machine.Core.{Core}
use Rattle.hse_rows.specs.machine.CoreRefusal.{unless_not_taken, unless_run_well, refusal}
use Rattle.hse_rows.specs.machine.CoreDone.{done, refused_to, failing, ending, ending_failed}
use Rattle.engine_state.specs.Keeping.{CallsKeepSound, FailuresKeepSound, RefusalsKeepSound}
use Rattle.engine_state.specs.Serves.{IsSound, handed, handed_by}
use Rattle.kvdb.specs.Ending as engine
use Rattle.kvdb.specs.Ending.{written_to}
use Rattle.kvdb.specs.Found.{StoresFrom}
use Rattle.kvdb.specs.Serves.{Serves}
use Rattle.kvdb.specs.Taking.{Took}
use Rattle.kvdb.specs.Turns.{TurnOf, RanOf}
use Rattle.kvdb.specs.declared.engine.Kvdb.{Kvdb}
use Rattle.kvdb.specs.declared.turn.Broken.{Broken}
use Rattle.kvdb.specs.declared.turn.Turn.{Turn}
use Rattle.kvdb.specs.declared.turn.Ran.{Ran}
use Rattle.kvdb.specs.laws.Written.{serves_written}
use Rattle.turn_phases.specs.declared.held.Held.TheVariants as held
use Rattle.turn_phases.specs.declared.phases.TurnPhases.{TurnPhases}
use Rattle.turn_phases.specs.declared.faults.EndFault.TheVariants as end_fault
use Rattle.turn_phases.specs.declared.faults.RunFault.TheVariants as run_fault
use Rattle.turn_phases.specs.declared.faults.WholeFault.TheVariants as whole_fault
use Rattle.turn_phases.specs.declared.faults.TurnPhase.TheVariants as phase
use Rattle.turn_phases.specs.Serves.{PhasesServe}
use Rattle.turn_phases.specs.Steps.{IsDone}
use Rattle.turn_phases.specs.Turns.{Ends, TurnsWhole, Writes, taken_for, written_for}
use Rattle.turn_phases.proofs.HeldLemmas.{serve_by}

-- ---- the taking

pub took_turn : {D : Type 0} (g : Ghosts D) (m : Core) (what : TurnWish) (turn : Turn D g) (new : TurnPhases D g) → CallsKeepSound → IsSound m
    → new.held ≡ held.Taken turn → Took g m what turn new.db → IsDone g m (take what) accepted new
took_turn g m what turn new keeps sound is t = record {
  unrefused = t.unrefused;
  replied = refl;
  serves = serve_by g new new.db (held.Taken turn) (done m (take what)) refl is t.serves (keeps m (take what) sound t.unrefused) t.turns;
}

-- ---- the device calls

pub written_refused : (m : Core) (out : TakenTurn) → m.turn ≡ machine.taken out → refusal m write_turn ≡ None
written_refused m out phase = ap unless_not_taken phase

-- the turn that ran is one that has run well, or has not
pub ran_well : {D : Type 0} (g : Ghosts D) (ran : Ran D g) (m : Core) → ran.has_failed ≡ false → RanOf g ran (written_to m ran.has_failed) → RanOf g ran (done m write_turn)
ran_well g ran m fine is = subst (λ (b : Bool). RanOf g ran (written_to m b)) fine is

pub ran_badly : {D : Type 0} (g : Ghosts D) (ran : Ran D g) (m : Core) → ran.has_failed ≡ true → RanOf g ran (written_to m ran.has_failed) → RanOf g ran (failing m write_turn)
ran_badly g ran m fails is = subst (λ (b : Bool). RanOf g ran (written_to m b)) fails is

pub wrote : {D : Type 0} (g : Ghosts D) (m : Core) (turn : Turn D g) (ran : Ran D g) (old new : TurnPhases D g) → CallsKeepSound → PhasesServe g old m
    → TurnOf g turn m → RanOf g ran (written_to m ran.has_failed) → ran.has_failed ≡ false → new.db ≡ old.db → new.held ≡ held.Run ran
    → IsDone g m write_turn written new
wrote g m turn ran old new keeps s t r fine same is =
    let unrefused : refusal m write_turn ≡ None = written_refused m t.out t.phase in
    record {
      unrefused = unrefused;
      replied = refl;
      serves = serve_by g new old.db (held.Run ran) (done m write_turn) same is (serves_written g old.db m t.out t.phase s.engine)
          (keeps m write_turn s.sound unrefused) (ran_well g ran m fine r);
    }

pub wrote_badly : {D : Type 0} (g : Ghosts D) (m : Core) (turn : Turn D g) (ran : Ran D g) (new : TurnPhases D g) → FailuresKeepSound → IsSound m
    → TurnOf g turn m → RanOf g ran (written_to m ran.has_failed) → ran.has_failed ≡ true → Calls m.turn → Serves g new.db (failing m write_turn)
    → new.held ≡ held.Run ran → Writes g m (Err run_fault.Device) new
wrote_badly g m turn ran new fail sound t r fails works serves is = (
  written_refused m t.out t.phase,
  works,
  serve_by g new new.db (held.Run ran) (failing m write_turn) refl is serves (fail m write_turn sound) (ran_badly g ran m fails r),
)

-- the device may store the life up to the turn's number
pub up_to_turn : {D : Type 0} (g : Ghosts D) (turn : Turn D g) (m : Core) (old new : D) → TurnOf g turn m
    → LeavesOnly g old new (StoresFrom m turn.number) → LeavesOnly g old new (StoresFrom m (handed m))
up_to_turn g turn m old new t leaves =
    subst (λ (n : ℕ). LeavesOnly g old new (StoresFrom m n)) (sym (ap (handed_by m.safe) t.phase ∙ t.of.is.number_is)) leaves

-- ---- the end

-- after device calls of which one failed or none
pub ended_home : (m : Core) (out : TakenTurn) (failed : Bool) → m.turn ≡ machine.ran out failed → (done m end_turn).turn ≡ machine.home
ended_home m out failed phase = ap (λ (t : machine.Turn). (ending m t).turn) phase

pub end_refused : (m : Core) (out : TakenTurn) → m.turn ≡ machine.ran out true → refusal m end_turn ≡ Some broken
end_refused m out phase = ap unless_run_well phase

pub end_unrefused : (m : Core) (out : TakenTurn) → m.turn ≡ machine.ran out false → refusal m end_turn ≡ None
end_unrefused m out phase = ap unless_run_well phase

-- a refusal by a broken engine is of a turn that failed
pub given_home : (m : Core) (out : TakenTurn) (failed : Bool) → m.turn ≡ machine.ran out failed → refusal m end_turn ≡ Some broken
    → (refused_to m end_turn).turn ≡ machine.home
given_home m out true phase is = ap (λ (t : machine.Turn). (ending_failed m t).turn) phase
given_home m out false phase is = absurd (let e : None ≡ Some broken = sym (end_unrefused m out phase) ∙ is in cc)

pub ended : {D : Type 0} (g : Ghosts D) (m : Core) (done_turn : Ran D g) (number : ℕ) (new : TurnPhases D g) → CallsKeepSound → IsSound m
    → RanOf g done_turn m → new.held ≡ held.Nothing → engine.Ends g m (Ok number) new.db → Ends g m (Ok number) new
ended g m done_turn number new keeps sound r is e = record {
  unrefused = e.0;
  replied = sym e.1;
  serves = serve_by g new new.db held.Nothing (done m end_turn) refl is e.2 (keeps m end_turn sound e.0)
      (ended_home m r.out done_turn.has_failed r.phase);
}

pub ended_badly : {D : Type 0} (g : Ghosts D) (m : Core) (done_turn : Ran D g) (fault : Broken) (new : TurnPhases D g) → RefusalsKeepSound → IsSound m
    → RanOf g done_turn m → new.held ≡ held.Nothing → engine.Ends g m (Err fault) new.db → Ends g m (Err end_fault.Broken) new
ended_badly g m done_turn fault new refusals sound r is e = (
  e.0,
  serve_by g new new.db held.Nothing (refused_to m end_turn) refl is e.1 (refusals m end_turn broken sound e.0)
      (given_home m r.out done_turn.has_failed r.phase e.0),
)

-- no turn has run
pub still_home : {D : Type 0} (g : Ghosts D) (m : Core) (new : TurnPhases D g) → m.turn ≡ machine.home → PhasesServe g new m
    → Ends g m (Err (end_fault.Phase phase.Home)) new
still_home g m new at s =
    (ap unless_run_well at, subst (λ (x : Core). PhasesServe g new x) (sym (ap (ending_failed m) at)) s)

pub still_taken : {D : Type 0} (g : Ghosts D) (m : Core) (out : TakenTurn) (new : TurnPhases D g) → m.turn ≡ machine.taken out → PhasesServe g new m
    → Ends g m (Err (end_fault.Phase phase.Taken)) new
still_taken g m out new at s =
    (ap unless_run_well at, subst (λ (x : Core). PhasesServe g new x) (sym (ap (ending_failed m) at)) s)

-- ---- all three

pub whole : {D : Type 0} (g : Ghosts D) (m : Core) (what : TurnWish) (turn : Turn D g) (ran : Ran D g) (db : Kvdb D g) (number : ℕ) (new : TurnPhases D g)
    → CallsKeepSound → IsSound m → Took g m what turn db → RanOf g ran (written_to (taken_for m what) ran.has_failed) → ran.has_failed ≡ false
    → ((x : Core) → IsSound x → Serves g db x → RanOf g ran x → engine.Ends g x (Ok number) new.db) → new.held ≡ held.Nothing
    → TurnsWhole g m what (Ok number) new
whole g m what turn ran db number new keeps sound t r fine ends is =
    let now : RanOf g ran (written_for m what) = ran_well g ran (taken_for m what) fine r in
    let sound_taken : IsSound (taken_for m what) = keeps m (take what) sound t.unrefused in
    let sound_written : IsSound (written_for m what) =
    keeps (taken_for m what) write_turn sound_taken (written_refused (taken_for m what) t.turns.out t.turns.phase) in
    let e = ends (written_for m what) sound_written (serves_written g db (taken_for m what) t.turns.out t.turns.phase t.serves) now in
    let last : Ends g (written_for m what) (Ok number) new = ended g (written_for m what) ran number new keeps sound_written now is e in
    (t.unrefused, last.replied, last.serves)

-- a turn that did not fail is not refused its end
pub never_broken : {D : Type 0} (g : Ghosts D) (m : Core) (what : TurnWish) (turn : Turn D g) (ran : Ran D g) (db new : Kvdb D g) (fault : Broken)
    → CallsKeepSound → IsSound m → Took g m what turn db → RanOf g ran (written_to (taken_for m what) ran.has_failed) → ran.has_failed ≡ false
    → ((x : Core) → IsSound x → Serves g db x → RanOf g ran x → engine.Ends g x (Err fault) new) → ⊥
never_broken g m what turn ran db new fault keeps sound t r fine ends =
    let now : RanOf g ran (written_for m what) = ran_well g ran (taken_for m what) fine r in
    let sound_taken : IsSound (taken_for m what) = keeps m (take what) sound t.unrefused in
    let e = ends (written_for m what)
    (keeps (taken_for m what) write_turn sound_taken (written_refused (taken_for m what) t.turns.out t.turns.phase))
    (serves_written g db (taken_for m what) t.turns.out t.turns.phase t.serves) now in
    let none : refusal (written_for m what) end_turn ≡ None =
    end_unrefused (written_for m what) now.out (now.phase ∙ ap (machine.ran now.out) fine) in
    let bad : None ≡ Some broken = sym none ∙ e.0 in
    cc

-- what the engine serves once a failed turn is back, whatever the end answers
given_back : {D : Type 0} (g : Ghosts D) (m : Core) (out : TakenTurn) (result : Result ℕ Broken) (new : Kvdb D g) → m.turn ≡ machine.ran out true
    → engine.Ends g m result new → Serves g new (refused_to m end_turn)
given_back g m out (Ok number) new at e = absurd (let n : None ≡ Some broken = sym e.0 ∙ end_refused m out at in cc)
given_back g m out (Err fault) new at e = e.1

pub whole_badly : {D : Type 0} (g : Ghosts D) (m : Core) (what : TurnWish) (turn : Turn D g) (ran : Ran D g) (taken_by db : Kvdb D g) (result : Result ℕ Broken)
    (new : TurnPhases D g) → CallsKeepSound → FailuresKeepSound → RefusalsKeepSound → IsSound m → Took g m what turn taken_by
    → RanOf g ran (written_to (taken_for m what) ran.has_failed) → ran.has_failed ≡ true → Calls (taken_for m what).turn
    → Serves g db (failing (taken_for m what) write_turn)
    → ((x : Core) → IsSound x → Serves g db x → RanOf g ran x → engine.Ends g x result new.db) → new.held ≡ held.Nothing
    → TurnsWhole g m what (Err whole_fault.Device) new
whole_badly g m what turn ran taken_by db result new keeps fail refusals sound t r fails works serves ends is =
    let then : Core = failing (taken_for m what) write_turn in
    let now : RanOf g ran then = ran_badly g ran (taken_for m what) fails r in
    let at : then.turn ≡ machine.ran now.out true = now.phase ∙ ap (machine.ran now.out) fails in
    let sound_failed : IsSound then = fail (taken_for m what) write_turn (keeps m (take what) sound t.unrefused) in (
      t.unrefused,
      works,
      serve_by g new new.db held.Nothing (refused_to then end_turn) refl is (given_back g then now.out result new.db at (ends then sound_failed serves now))
          (refusals then end_turn broken sound_failed (end_refused then now.out at)) (given_home then now.out true at (end_refused then now.out at)),
    )
