-- An engine whose turn made its device calls without a fault: that is no call on the engine.
use Rattle.std.proofs.Common.{◌≡◌, ℕ, ◌≤◌, false, List, ◌++◌, arith, sym, ◌∙◌, ap, subst}
use Rattle.media_disk.specs.declared.device.Device.{Ghosts}
use Rattle.hse_rows.specs.declared.row_set.RowSet as rows
use Rattle.hse_rows.specs.machine.Turn.{TakenTurn, Turn as machine_turn, home, taken, written}
use Rattle.hse_rows.specs.machine.Calls.{write_turn}
use Rattle.hse_rows.specs.machine.Core.{Core}
use Rattle.hse_rows.specs.machine.CoreDone.{done}
use Rattle.hse_rows.specs.machine.Recorded.{due}
use Rattle.hse_rows.specs.machine.TakenRuns.{runs_of}
use Rattle.engine_state.specs.Serves.{ServesAbove, handed, handed_by}
use Rattle.engine_state.specs.declared.state.EngineState.{EngineState}
use Rattle.kvdb.specs.Pending.{IsPending}
use Rattle.kvdb.specs.Serves.{of_sets, IsOut, SideIs, Serves}
use Rattle.kvdb.specs.declared.engine.Kvdb.{Kvdb}
use Rattle.kvdb.specs.declared.side.Side.{Side}
use Rattle.kvdb.specs.declared.side.Side.TheVariants as side

-- the state in memory does not see the turn's phase
pub above_turn : {R : Type 0} (g : rows.Ghosts R) (state : EngineState R g) (m : Core) (turn : machine_turn) (handed : ℕ)
    → ServesAbove g state m handed → ServesAbove g state (record m { turn = turn }) handed
above_turn g state m turn handed s = record {
  view = record { state = s.view.state; stores = s.view.stores };
  locks = s.locks;
  live = s.live;
  begins = s.begins;
  charge = s.charge;
  waits = s.waits;
  safe = s.safe;
  is_broken = s.is_broken;
  cursors = s.cursors;
  sizes = s.sizes;
}

-- nor does what waits
pub pending_taken : (m : Core) (turn : machine_turn) → due turn ≡ due m.turn → handed m ≤ handed_by m.safe turn → IsPending m
    → IsPending (record m { turn = turn })
pending_taken m turn same later p = record {
  settled = p.settled;
  below = p.below;
  active = p.active;
  due = λ whole. p.due whole ∙ sym same;
  waiting = p.waiting;
  written = p.written;
  named = p.named;
  known = λ whole. let was : p.named ≤ handed m = p.known whole in let now : p.named ≤ handed_by m.safe turn = omega (arith, was, later) in now;
  stores = p.stores;
  waiting_named = p.waiting_named;
  written_named = p.written_named;
}

side_written : {D : Type 0} (g : Ghosts D) (s : Side D g) (m : Core) (out : TakenTurn) → m.turn ≡ taken out → SideIs g s m
    → SideIs g s (record m { turn = written m.turn false })
side_written g (side.In back) m out phase is = absurd (let e : home ≡ taken out = sym is.turn ∙ phase in cc)
side_written g (side.Out what number) m out phase is =
    subst (IsOut what number) (sym (ap (λ (t : machine_turn). written t false) phase)) (subst (IsOut what number) phase is)

pub serves_written : {D : Type 0} (g : Ghosts D) (engine : Kvdb D g) (m : Core) (out : TakenTurn) → m.turn ≡ taken out → Serves g engine m
    → Serves g engine (done m write_turn)
serves_written g engine m out phase s = record {
  state = subst (ServesAbove of_sets engine.state (record m { turn = written m.turn false }))
      (ap (handed_by m.safe) phase ∙ sym (ap (λ (t : machine_turn). handed_by m.safe (written t false)) phase))
      (above_turn of_sets engine.state m (written m.turn false) (handed m) s.state);
  pending = pending_taken m (written m.turn false) same_due
      (let was : handed m ≡ out.number = ap (handed_by m.safe) phase in
      let is : handed_by m.safe (written m.turn false) ≡ out.number = ap (λ (t : machine_turn). handed_by m.safe (written t false)) phase in
      let e : handed m ≤ handed_by m.safe (written m.turn false) = omega (arith, was, is) in e) s.pending;
  start = record {
    horizon = s.start.horizon;
    first = s.start.first;
    taken = λ whole. s.start.taken whole ∙ ap (λ (l : List ℕ). runs_of (m.manifest.taken ++ l)) (sym same_due);
  };
  manifest = s.manifest;
  free = s.free;
  frozen = s.frozen;
  layout = s.layout;
  jobs = s.jobs;
  side = side_written g engine.side m out phase s.side;
}
  where
    same_due : due (written m.turn false) ≡ due m.turn
    same_due = ap (λ (t : machine_turn). due (written t false)) phase ∙ sym (ap due phase)
