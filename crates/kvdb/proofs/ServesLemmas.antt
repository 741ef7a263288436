-- An engine after a call of a session.
use Rattle.std.specs.Prelude.{Option, None, Result, Ok, Err}
use Rattle.std.proofs.Common.{◌≡◌, ℕ, ◌-◌, ◌≤◌, ◌++◌, sym, ◌∙◌, ap, subst}
use Rattle.media_disk.specs.declared.device.Device.{Ghosts}
use Rattle.hse_rows.specs.machine.Log.{LogState}
use Rattle.hse_rows.specs.machine.ManifestRoom.{ManifestState}
use Rattle.hse_rows.specs.machine.Sizes.{Sizes}
use Rattle.hse_rows.specs.machine.Replies.{Refusal, Answer}
use Rattle.hse_rows.specs.machine.Calls.{Call}
use Rattle.hse_rows.specs.machine.Core.{Core, number_of}
use Rattle.hse_rows.specs.machine.Recorded.{due}
use Rattle.hse_rows.specs.machine.TakenRuns.{runs_of}
use Rattle.hse_rows.specs.machine.Turn.{Turn}
use Rattle.hse_rows.specs.machine.CoreRefusal.{refusal}
use Rattle.hse_rows.specs.machine.CoreDone.{done}
use Rattle.engine_state.specs.Serves as state
use Rattle.engine_state.specs.Steps as steps
use Rattle.kvdb.specs.Growth.{Grows}
use Rattle.kvdb.specs.Pending.{IsPending}
use Rattle.kvdb.specs.Serves.{of_sets, SideIs, Serves, StartServes}
use Rattle.kvdb.specs.Steps.{Steps}
use Rattle.kvdb.specs.declared.engine.Kvdb.{Kvdb}
use Rattle.kvdb.specs.declared.log_start.LogStart.{LogStart}
use Rattle.kvdb.specs.declared.side.Side.{Side}
use Rattle.kvdb.specs.laws.Turns.{side_grown}

-- ---- the log's start

start_same : (m : Core) (start new : LogStart) → new ≡ start → StartServes start m → StartServes new m
start_same m start new same s = subst (λ (x : LogStart). StartServes x m) (sym same) s

start_grown : (m then : Core) → Grows m then → (start new : LogStart) → new ≡ start → StartServes start m → StartServes new then
start_grown m then grows start new same s = start_same then start new same (record {
  horizon = s.horizon ∙ sym (ap (λ (log : LogState). log.horizon) grows.log);
  first = s.first ∙ sym (ap (λ (log : LogState). log.first_segment) grows.log);
  taken = λ whole.
      s.taken (sym grows.is_broken ∙ whole)
      ∙ ap (λ (x : ManifestState). runs_of (x.taken ++ due m.turn)) (sym grows.manifest)
      ∙ ap (λ (t : Turn). runs_of (then.manifest.taken ++ due t)) (sym grows.turn);
})

-- ---- the engine

pub serves_session : {D : Type 0} (g : Ghosts D) (engine new : Kvdb D g) (m then : Core) → Grows m then → m.timeline.base.number ≤ m.safe → m.safe ≤ number_of m
    → Serves g engine m → state.Serves of_sets new.state then → IsPending then → new.side ≡ engine.side → new.sequence ≡ engine.sequence
    → new.free ≡ engine.free → new.log_start ≡ engine.log_start → Serves g new then
serves_session {D = D} g engine new m then grows from until s above pending side sequence free start = record {
  state = above;
  pending = pending;
  start = start_grown m then grows engine.log_start new.log_start start s.start;
  manifest = sequence ∙ s.manifest ∙ ap (λ (x : ManifestState). x.sequence) (sym grows.manifest);
  free = free ∙ s.free ∙ ap (λ (x : Sizes). x.slots - m.used_slots) (sym grows.sizes) ∙ ap (λ (n : ℕ). then.sizes.slots - n) (sym grows.used_slots);
  frozen = ap (λ (log : LogState). log.frozen) grows.log ∙ s.frozen;
  layout = grows.layout ∙ s.layout;
  jobs = grows.jobs ∙ s.jobs;
  side = subst (λ (x : Side D g). SideIs g x then) (sym side) (side_grown m then grows from until g engine.side s.side);
}

-- a call that changed nothing but the state in memory
pub serves_same : {D : Type 0} (g : Ghosts D) (engine new : Kvdb D g) (m : Core) → Serves g engine m → state.Serves of_sets new.state m
    → new.side ≡ engine.side → new.sequence ≡ engine.sequence → new.free ≡ engine.free → new.log_start ≡ engine.log_start → Serves g new m
serves_same {D = D} g engine new m s above side sequence free start = record {
  state = above;
  pending = s.pending;
  start = start_same m engine.log_start new.log_start start s.start;
  manifest = sequence ∙ s.manifest;
  free = free ∙ s.free;
  frozen = s.frozen;
  layout = s.layout;
  jobs = s.jobs;
  side = subst (λ (x : Side D g). SideIs g x m) (sym side) s.side;
}

-- a step of the state in memory is one of the engine
pub lifts : {D X F : Type 0} (g : Ghosts D) (engine new : Kvdb D g) (told : X → Answer ℕ) (Says : F → Option (Refusal ℕ) → Type 0) (m : Core) (what : Call)
    (result : Result X F) → Grows m (done m what) → m.timeline.base.number ≤ m.safe → m.safe ≤ number_of m → Serves g engine m
    → (refusal m what ≡ None → IsPending (done m what)) → new.side ≡ engine.side → new.sequence ≡ engine.sequence → new.free ≡ engine.free
    → new.log_start ≡ engine.log_start → steps.Steps of_sets told Says m what result new.state → Steps g told Says m what result new
lifts g engine new told Says m what (Ok x) grows from until s pending side sequence free start is = record {
  unrefused = is.unrefused;
  replied = is.replied;
  serves = serves_session g engine new m (done m what) grows from until s is.serves (pending is.unrefused) side sequence free start;
}
lifts g engine new told Says m what (Err fault) grows from until s pending side sequence free start is =
    (is.0, serves_same g engine new m s is.1 side sequence free start)
