-- The end of an engine, whatever turn is out.
use Rattle.std.specs.Prelude.{Bool, true, false, Some, None, IfSome, Result, Ok, Err}
use Rattle.std.proofs.Common.{◌≡◌, inl, inr, ⊎_elim, ◌≤◌, ℕ, List, sym, ap, ◌∙◌, subst}
use Rattle.hse_io.specs.Faults.{Rose}
use Rattle.media_disk.specs.Leaves.{LeavesOnly}
use Rattle.media_disk.specs.declared.device.Device.{Ghosts}
use Rattle.media_disk.specs.laws.Leaves.{leaves_more, leaves_joined}
use Rattle.hse_rows.specs.machine.Turn as machine
use Rattle.hse_rows.specs.machine.Turn.{TakenTurn, Calls}
use Rattle.hse_rows.specs.machine.Calls.{write_turn, end_turn}
use Rattle.hse_rows.specs.machine.Replies.{broken}
use Rattle.hse_rows.specs.machine.Core.{Core, number_of}
use Rattle.hse_rows.specs.machine.CoreDone.{done, refused_to, failing}
use Rattle.hse_rows.specs.machine.CoreRefusal.{refusal}
use Rattle.back.specs.declared.back.Back.{Back}
use Rattle.engine_state.specs.Serves.{handed, handed_by}
use Rattle.kvdb.specs.Ending.{RoseWhere}
use Rattle.kvdb.specs.Found.{StoresFrom}
use Rattle.kvdb.specs.Leaving.{Closes, CloseReports}
use Rattle.kvdb.specs.Sides.{device_in, out_of}
use Rattle.kvdb.specs.Turns.{TurnOf, RanOf}
use Rattle.kvdb.specs.declared.leaving.CloseFault.{CloseFault}
use Rattle.kvdb.specs.declared.leaving.CloseFault.TheVariants as fault
use Rattle.kvdb.specs.declared.side.Side.{Side}
use Rattle.kvdb.specs.declared.side.Side.TheVariants as side
use Rattle.kvdb.specs.declared.turn.Ran.{Ran}
use Rattle.kvdb.specs.declared.turn.Turn.{Turn}
use Rattle.turn_phases.specs.declared.held.Held.{Held}
use Rattle.turn_phases.specs.Devices.{device_at}
use Rattle.turn_phases.specs.HeldTurns.{turn_of}
use Rattle.turn_phases.specs.Closing.{ClosesWith, StoresWithin, finished, finished_from}
use Rattle.turn_phases.proofs.TurnLemmas.{end_refused, end_unrefused, up_to_turn}

-- ---- the answer

pub closed_as : {D : Type 0} (g : Ghosts D) (m : Core) (result : Result ℕ CloseFault) (disk : D) → Closes g (finished m) result disk → ClosesWith g m result disk
closed_as g m (Ok number) disk is = is
closed_as g m (Err fault.Broken) disk is = is
closed_as g m (Err fault.Device) disk is = inr is
closed_as g m (Err fault.NoMemory) disk is = is

-- the turn that has run was ended
pub finished_well : (m : Core) (out : TakenTurn) (failed : Bool) → m.turn ≡ machine.ran out failed → refusal m end_turn ≡ None → finished m ≡ done m end_turn
finished_well m out false at is = ap (finished_from m) at
finished_well m out true at is = absurd (let e : None ≡ Some broken = sym is ∙ end_refused m out at in cc)

pub finished_badly : (m : Core) (out : TakenTurn) (failed : Bool) → m.turn ≡ machine.ran out failed → refusal m end_turn ≡ Some broken → finished m ≡ refused_to m end_turn
finished_badly m out true at is = ap (finished_from m) at
finished_badly m out false at is = absurd (let e : None ≡ Some broken = sym (end_unrefused m out at) ∙ is in cc)

pub finished_home : (m : Core) → m.turn ≡ machine.home → finished m ≡ m
finished_home m at = ap (finished_from m) at

pub closed_for : {D : Type 0} (g : Ghosts D) (m then : Core) (result : Result ℕ CloseFault) (disk : D) → finished m ≡ then → Closes g then result disk → ClosesWith g m result disk
closed_for g m then result disk same is = closed_as g m result disk (subst (λ (x : Core). Closes g x result disk) (sym same) is)

-- the turn that was taken was written, and then the engine was closed
pub closed_written : {D : Type 0} (g : Ghosts D) (m : Core) (out : TakenTurn) (result : Result ℕ CloseFault) (disk : D) → m.turn ≡ machine.taken out
    → ClosesWith g (done m write_turn) result disk → ClosesWith g m result disk
closed_written {D = D} g m out result disk at = by result
  where
    then : Core
    then = done m write_turn

    ran_now : then.turn ≡ machine.ran out false
    ran_now = ap (λ (t : machine.Turn). machine.written t false) at

    same : finished m ≡ finished then
    same = ap (finished_from m) at ∙ sym (ap (finished_from then) ran_now)

    by : (r : Result ℕ CloseFault) → ClosesWith g (done m write_turn) r disk → ClosesWith g m r disk
    by (Ok number) is = closed_for g m (finished then) (Ok number) disk same is
    by (Err fault.Broken) is = closed_for g m (finished then) (Err fault.Broken) disk same is
    by (Err fault.NoMemory) is = closed_for g m (finished then) (Err fault.NoMemory) disk same is
    by (Err fault.Device) is =
        ⊎_elim (λ fails. absurd (subst Calls ran_now fails.0)) (λ late. closed_for g m (finished then) (Err fault.Device) disk same late) is

-- a device call of it failed
pub closed_failed : {D : Type 0} (g : Ghosts D) (m : Core) (turn : Turn D g) (ran : Ran D g) → TurnOf g turn m → RanOf g ran (failing m write_turn)
    → ran.has_failed ≡ true → Calls m.turn → ClosesWith g m (Err fault.Device) ran.back.disk
closed_failed g m turn ran t r fails works = inl (works, t.whole, r.failed fails)

-- ---- what a crash leaves

-- the engine's own closing
pub leaves_in : {D : Type 0} (g : Ghosts D) (s : Side D g) (back : Back D g) (new : D) (P : List ℕ → Type 0) → s ≡ side.In back
    → IfSome (device_in s) (λ disk. LeavesOnly g disk new P) → LeavesOnly g back.disk new P
leaves_in {D = D} g s back new P is leaves = subst (λ (x : Side D g). IfSome (device_in x) (λ disk. LeavesOnly g disk new P)) is leaves

-- where no turn is out
pub leaves_home : {D : Type 0} (g : Ghosts D) (s : Side D g) (h : Held D g) (paired : out_of s ≡ turn_of h) (new : D) (P : List ℕ → Type 0) → out_of s ≡ None
    → IfSome (device_in s) (λ disk. LeavesOnly g disk new P) → LeavesOnly g (device_at s h paired) new P
leaves_home g (side.In back) h paired new P out leaves = leaves
leaves_home g (side.Out what number) h paired new P out leaves = absurd cc

pub leaves_for : {D : Type 0} (g : Ghosts D) (m then : Core) (old new : D) → finished m ≡ then → LeavesOnly g old new (StoresFrom then (number_of then))
    → LeavesOnly g old new (StoresWithin m)
leaves_for g m then old new same leaves =
    leaves_more g old new (StoresFrom then (number_of then)) (StoresWithin m) leaves
    (λ image has. inr (subst (λ (x : Core). StoresFrom x (number_of x) image) (sym same) has))

-- the turn's own calls
pub leaves_turn : {D : Type 0} (g : Ghosts D) (turn : Turn D g) (m : Core) (old new : D) → TurnOf g turn m
    → LeavesOnly g old new (StoresFrom m turn.number) → LeavesOnly g old new (StoresWithin m)
leaves_turn g turn m old new t leaves =
    leaves_more g old new (StoresFrom m (handed m)) (StoresWithin m) (up_to_turn g turn m old new t leaves) (λ image has. inl has)

-- what the life has does not turn on its turn's phase
from_written : (m : Core) (last : ℕ) (image : List ℕ) → StoresFrom (done m write_turn) last image → StoresFrom m last image
from_written m last image has = record { number = has.number; reaches = has.reaches; within = has.within; stored = has.stored }

pub within_written : (m : Core) (out : TakenTurn) (image : List ℕ) → m.turn ≡ machine.taken out → StoresWithin (done m write_turn) image → StoresWithin m image
within_written m out image at has =
    ⊎_elim
    (λ early. inl (subst (λ (n : ℕ). StoresFrom m n image) (ap (handed_by m.safe) ran_now ∙ sym (ap (handed_by m.safe) at)) (from_written m (handed then) image early)))
    (λ late. inr (subst (λ (x : Core). StoresFrom x (number_of x) image) (sym same) late))
    has
  where
    then : Core
    then = done m write_turn

    ran_now : then.turn ≡ machine.ran out false
    ran_now = ap (λ (t : machine.Turn). machine.written t false) at

    same : finished m ≡ finished then
    same = ap (finished_from m) at ∙ sym (ap (finished_from then) ran_now)

pub leaves_both : {D : Type 0} (g : Ghosts D) (turn : Turn D g) (m : Core) (old between new : D) → g.clock old ≤ g.clock between → TurnOf g turn m
    → LeavesOnly g old between (StoresFrom m turn.number) → LeavesOnly g between new (StoresWithin (done m write_turn)) → LeavesOnly g old new (StoresWithin m)
leaves_both g turn m old between new later t first more =
    leaves_joined g old between new (StoresWithin m) later (leaves_turn g turn m old between t first)
    (leaves_more g between new (StoresWithin (done m write_turn)) (StoresWithin m) more (λ image has. within_written m t.out image t.phase has))

-- ---- the count of faults

pub reports_from : (old between new : ℕ) (result : Result ℕ CloseFault) → between ≡ old → CloseReports between new result → CloseReports old new result
reports_from old between new result same is = subst (λ (n : ℕ). CloseReports n new result) same is

pub fails_where : (old new : ℕ) (failed : Bool) → failed ≡ true → RoseWhere old new failed → Rose old new
fails_where old new failed fails is = subst (RoseWhere old new) fails is

pub keeps_where : (old new : ℕ) (failed : Bool) → failed ≡ false → RoseWhere old new failed → new ≡ old
keeps_where old new failed fine is = subst (RoseWhere old new) fine is

-- ---- the disk that is given back

pub closed_at : {D : Type 0} (g : Ghosts D) (m : Core) (result : Result ℕ CloseFault) (disk is : D) → is ≡ disk → ClosesWith g m result disk → ClosesWith g m result is
closed_at {D = D} g m result disk is same closed = subst (λ (x : D). ClosesWith g m result x) (sym same) closed
