-- What the end of a turn answers, and what the engine stands for then.
use Rattle.std.specs.Prelude.{◌≡◌, ℕ, Some, None, Result, Ok, Err, true, false, Bool}
use Rattle.hse_io.specs.Faults.{Rose}
use Rattle.media_disk.specs.declared.device.Device.{Ghosts}
use Rattle.hse_rows.specs.machine.Turn.{TakenTurn, taken}
use Rattle.hse_rows.specs.machine.Calls.{end_turn, write_turn}
use Rattle.hse_rows.specs.machine.Replies.{broken, ok}
use Rattle.hse_rows.specs.machine.Core.{Core}
use Rattle.hse_rows.specs.machine.CoreRefusal.{refusal}
use Rattle.hse_rows.specs.machine.CoreReply.{reply}
use Rattle.hse_rows.specs.machine.CoreDone.{done, refused_to, failing}
use Rattle.kvdb.specs.declared.engine.Kvdb.{Kvdb}
use Rattle.kvdb.specs.declared.turn.Broken.{Broken}
use Rattle.kvdb.specs.Serves.{Serves}

-- a turn's device calls, of which one failed or none
abbrev pub written_to : Core → Bool → Core
written_to m false = done m write_turn
written_to m true = failing m write_turn

-- a turn was taken and has not run
abbrev pub IsTaken : Core → Type 0
IsTaken m = (out : TakenTurn) × (m.turn ≡ taken out)

-- the count of faults rose exactly where a device call failed
abbrev pub RoseWhere : ℕ → ℕ → Bool → Type 0
RoseWhere old new false = new ≡ old
RoseWhere old new true = Rose old new

-- the turn's number, where no device call failed; else the engine is broken
abbrev pub IsEnded : Bool → ℕ → Result ℕ Broken → Bool → Type 0
IsEnded false number result is_broken = result ≡ Ok number
IsEnded true number (Ok told) is_broken = ⊥
IsEnded true number (Err fault) is_broken = is_broken ≡ true

-- The turn's number, where no device call failed; else the engine is broken, and the turn is given back.
abbrev pub Ends : {D : Type 0} (g : Ghosts D) → Core → Result ℕ Broken → Kvdb D g → Type 0
Ends g m (Ok number) new =
    (refusal m end_turn ≡ None) × (reply m end_turn ≡ ok number) × Serves g new (done m end_turn)
Ends g m (Err fault) new = (refusal m end_turn ≡ Some broken) × Serves g new (refused_to m end_turn)
