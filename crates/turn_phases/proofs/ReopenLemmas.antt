-- Openings, and openings in place.
use Rattle.std.specs.Prelude.{Some, None, IfSome, Result, Ok, Err}
use Rattle.std.proofs.Common.{◌≡◌, ℕ, List, [], ◌∷◌, refl, sym, ap, ◌∙◌, subst}
use Rattle.media_disk.specs.Leaves.{LeavesOnly}
use Rattle.media_disk.specs.declared.device.Device.{Ghosts}
use Rattle.media_disk.specs.laws.Leaves.{leaves_started}
use Rattle.hse_rows.specs.machine.Turn as machine
use Rattle.hse_rows.specs.machine.Calls.{reopen}
use Rattle.hse_rows.specs.machine.Core.{Core, Stored, life, formatted}
use Rattle.hse_rows.specs.machine.CoreDone.{failing}
use Rattle.hse_rows.specs.machine.Sizes.{default_sizes}
use Rattle.back.specs.declared.back.Back.{Back}
use Rattle.recovery.specs.Machine.{stored_of}
use Rattle.recovery.specs.declared.fault.OpenFault.{OpenFault}
use Rattle.recovery.specs.declared.fault.OpenFault.TheVariants.{NotFormed, Version, Device, NoMemory}
use Rattle.engine_state.specs.Keeping.{FailuresKeepSound}
use Rattle.kvdb.specs.Found.{stored_at}
use Rattle.kvdb.specs.Lives.{LivesAreSound}
use Rattle.kvdb.specs.Opening as engine_opening
use Rattle.kvdb.specs.Reopening as engine
use Rattle.kvdb.specs.Reopening.{last_left}
use Rattle.kvdb.specs.Serves.{Serves}
use Rattle.kvdb.specs.Sides.{device_in, out_of}
use Rattle.kvdb.specs.declared.reopening.ReopenFault.{ReopenFault}
use Rattle.kvdb.specs.declared.reopening.ReopenFault.TheVariants as fault
use Rattle.kvdb.specs.declared.side.Side.{Side}
use Rattle.kvdb.specs.declared.side.Side.TheVariants as side
use Rattle.turn_phases.specs.declared.held.Held.{Held}
use Rattle.turn_phases.specs.declared.held.Held.TheVariants as held
use Rattle.turn_phases.specs.declared.phases.TurnPhases.{TurnPhases}
use Rattle.turn_phases.specs.Devices.{device_of}
use Rattle.turn_phases.specs.HeldTurns.{turn_of}
use Rattle.turn_phases.specs.Reopening.{ReadsDevice, Reopens}
use Rattle.turn_phases.specs.Serves.{PhasesServe}
use Rattle.turn_phases.specs.Starting.{Opens}
use Rattle.turn_phases.proofs.DeviceLemmas.{device_in_engine, device_same, leaves_at}
use Rattle.turn_phases.proofs.HeldLemmas.{held_home, home_of, serve_by}

-- ---- openings

-- a life begins with no turn out
begun : {D : Type 0} (g : Ghosts D) (stored : Stored) (new : TurnPhases D g) → LivesAreSound g → g.tells → new.held ≡ held.Nothing
    → Serves g new.db (life stored) → PhasesServe g new (life stored)
begun g stored new sound told is serves =
    serve_by g new new.db held.Nothing (life stored) refl is serves (sound told new.db stored serves) refl

pub opened : {D : Type 0} (g : Ghosts D) (image : List ℕ) (new : TurnPhases D g) → LivesAreSound g → g.tells → new.held ≡ held.Nothing
    → engine_opening.Opens g image (Ok new.db) → Opens g image (Ok new)
opened g [] new sound told is opens = begun g (formatted default_sizes) new sound told is opens
opened g (byte ∷ bytes) new sound told is opens = record {
  loaded = opens.loaded;
  is = opens.is;
  serves = begun g (stored_of opens.loaded) new sound told is opens.serves;
}

pub not_opened : {D : Type 0} (g : Ghosts D) (image : List ℕ) (left : D × OpenFault) → engine_opening.Opens g image (Err left) → Opens g image (Err left)
not_opened g [] (disk, why) opens = opens
not_opened g (byte ∷ bytes) (disk, why) opens = opens

-- ---- in place

stays : {D : Type 0} (g : Ghosts D) (m : Core) (old new : TurnPhases D g) → new.held ≡ old.held → PhasesServe g old m → Serves g new.db m → PhasesServe g new m
stays g m old new is s serves = serve_by g new new.db old.held m refl is serves s.sound s.turn

pub reopened : {D : Type 0} (g : Ghosts D) (m : Core) (result : Result ℕ ReopenFault) (old new : TurnPhases D g) → LivesAreSound g → FailuresKeepSound
    → new.held ≡ old.held → PhasesServe g old m → engine.Reopens g m result new.db → Reopens g m result new
reopened g m (Ok number) old new sound fail is s r = (
  r.0,
  λ told. let b = r.1 told in record {
    reaches = b.reaches;
    within = b.within;
    serves = begun g (stored_at m number) new sound told
        (is ∙ held_home g old.held m (home_of m.turn r.0) s.turn) b.serves;
  },
)
reopened g m (Err (fault.Busy kind)) old new sound fail is s r = (r.0, stays g m old new is s r.1)
reopened g m (Err (fault.Open (NotFormed region place))) old new sound fail is s r = (r.0, (r.1.0, stays g m old new is s r.1.1))
reopened g m (Err (fault.Open (Version version))) old new sound fail is s r = (r.0, (r.1.0, stays g m old new is s r.1.1))
reopened {D = D} g m (Err (fault.Open Device)) old new sound fail is s r = (
  r.0,
  serve_by g new new.db held.Nothing (failing m reopen) refl (is ∙ held_home g old.held m (home_of m.turn r.0) s.turn) r.1
      (fail m reopen s.sound) (home_of m.turn r.0),
)
reopened g m (Err (fault.Open NoMemory)) old new sound fail is s r = (r.0, stays g m old new is s r.1)

-- ---- the device

back_in : {D : Type 0} {g : Ghosts D} (s : Side D g) → out_of s ≡ None → (back : Back D g) × (s ≡ side.In back)
back_in (side.In back) is = (back, refl)
back_in (side.Out what number) is = absurd cc

-- the device that is in
in_place : {D : Type 0} {g : Ghosts D} (phases : TurnPhases D g) (disk : D) → device_in phases.db.side ≡ Some disk → device_of phases ≡ disk
in_place {D = D} {g = g} phases disk is = at phases.db.side refl
  where
    some_is : (x y : D) → Some x ≡ Some y → x ≡ y
    some_is x y e = cc

    at : (s : Side D g) → phases.db.side ≡ s → device_of phases ≡ disk
    at (side.In back) same =
        device_in_engine phases.db.side phases.held phases.paired back same
        ∙ some_is back.disk disk (sym (ap (λ (x : Side D g). device_in x) same) ∙ is)
    at (side.Out what number) same = absurd (let e : None ≡ Some disk = sym (ap (λ (x : Side D g). device_in x) same) ∙ is in cc)

read_at : {D : Type 0} (g : Ghosts D) (old new : D) (result : Result ℕ ReopenFault) (left : Side D g) (was is : D)
    → was ≡ old → is ≡ new → (r : engine.ReadsDevice g old left result) → r.new ≡ new → ReadsDevice g was is result
read_at {D = D} g old new (Ok number) left was is a b r same =
    subst (λ (x : D). ReadsDevice g x is (Ok number)) (sym a) (subst (λ (x : D). ReadsDevice g old x (Ok number)) (same ∙ sym b) (r.calls, r.reports, r.keeps))
read_at g old new (Err (fault.Busy kind)) left was is a b r same = absurd r.reports
read_at {D = D} g old new (Err (fault.Open why)) left was is a b r same =
    subst (λ (x : D). ReadsDevice g x is (Err (fault.Open why))) (sym a)
    (subst (λ (x : D). ReadsDevice g old x (Err (fault.Open why))) (same ∙ sym b) (r.calls, r.reports, r.keeps))

-- what the engine's own opening in place says of the device that is in
read_in : {D : Type 0} (g : Ghosts D) (old new : TurnPhases D g) (result : Result ℕ ReopenFault) (s : Side D g) → out_of s ≡ None → old.db.side ≡ s
    → engine.LeavesSide g s new.db.side result → ReadsDevice g (device_of old) (device_of new) result
read_in g old new result (side.In back) out is leaves =
    read_at g back.disk leaves.new result new.db.side (device_of old) (device_of new) (device_in_engine old.db.side old.held old.paired back is)
    (in_place new leaves.new leaves.is) leaves refl
read_in g old new result (side.Out what number) out is leaves = absurd cc

busy_same : {D : Type 0} (g : Ghosts D) (old new : TurnPhases D g) (s : Side D g) → old.db.side ≡ s → (kind : _) → new.held ≡ old.held
    → engine.LeavesSide g s new.db.side (Err (fault.Busy kind)) → device_of new ≡ device_of old
busy_same g old new (side.In back) is kind same leaves = absurd leaves.reports
busy_same g old new (side.Out what number) is kind same leaves = device_same old.db.side new.db.side old.held new.held old.paired new.paired (leaves ∙ sym is) same

-- no turn is out
home_out : {D : Type 0} (g : Ghosts D) (m : Core) (old : TurnPhases D g) → PhasesServe g old m → m.turn ≡ machine.home → out_of old.db.side ≡ None
home_out {D = D} g m old s at =
    old.paired ∙ ap (λ (h : Held D g). turn_of h) (held_home g old.held m at s.turn)

pub read_again : {D : Type 0} (g : Ghosts D) (m : Core) (old new : TurnPhases D g) (result : Result ℕ ReopenFault) → new.held ≡ old.held → PhasesServe g old m
    → engine.Reopens g m result new.db → engine.LeavesSide g old.db.side new.db.side result → ReadsDevice g (device_of old) (device_of new) result
read_again {D = D} g m old new (Ok number) same s r leaves =
    read_in g old new (Ok number) old.db.side (home_out g m old s (home_of m.turn r.0)) refl leaves
read_again g m old new (Err (fault.Busy kind)) same s r leaves = busy_same g old new old.db.side refl kind same leaves
read_again g m old new (Err (fault.Open why)) same s r leaves =
    read_in g old new (Err (fault.Open why)) old.db.side (home_out g m old s (home_of m.turn r.0)) refl leaves

-- what a crash leaves, where the device is in before and behind
left_in : {D : Type 0} (g : Ghosts D) (old new : TurnPhases D g) (P : List ℕ → Type 0) (s now : Side D g) (result : Result ℕ ReopenFault)
    → old.db.side ≡ s → new.db.side ≡ now → out_of s ≡ None → engine.LeavesSide g s now result
    → IfSome (device_in s) (λ was. IfSome (device_in now) (λ is. LeavesOnly g was is P)) → LeavesOnly g (device_of old) (device_of new) P
left_in g old new P (side.In before) (side.In behind) result a b out reads leaves =
    leaves_at g before.disk behind.disk (device_of old) (device_of new) P (device_in_engine old.db.side old.held old.paired before a)
    (device_in_engine new.db.side new.held new.paired behind b) leaves
left_in g old new P (side.In before) (side.Out what number) result a b out reads leaves =
    absurd (let e : None ≡ Some reads.new = reads.is in cc)
left_in g old new P (side.Out what number) now result a b out reads leaves = absurd cc

left_same : {D : Type 0} (g : Ghosts D) (old new : D) (P : List ℕ → Type 0) → new ≡ old → LeavesOnly g old new P
left_same g old new P same = leaves_at g old old old new P refl same (leaves_started g old P)

pub leaves_again : {D : Type 0} (g : Ghosts D) (m : Core) (old new : TurnPhases D g) (result : Result ℕ ReopenFault) (P : List ℕ → Type 0) → new.held ≡ old.held
    → PhasesServe g old m → engine.Reopens g m result new.db → engine.LeavesSide g old.db.side new.db.side result
    → IfSome (device_in old.db.side) (λ was. IfSome (device_in new.db.side) (λ is. LeavesOnly g was is P)) → LeavesOnly g (device_of old) (device_of new) P
leaves_again g m old new (Ok number) P same s r reads leaves =
    left_in g old new P old.db.side new.db.side (Ok number) refl refl (home_out g m old s (home_of m.turn r.0)) reads leaves
leaves_again g m old new (Err (fault.Busy kind)) P same s r reads leaves =
    left_same g (device_of old) (device_of new) P (busy_same g old new old.db.side refl kind same reads)
leaves_again g m old new (Err (fault.Open why)) P same s r reads leaves =
    left_in g old new P old.db.side new.db.side (Err (fault.Open why)) refl refl (home_out g m old s (home_of m.turn r.0)) reads leaves
