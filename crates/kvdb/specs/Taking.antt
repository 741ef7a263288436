-- What taking a turn answers, and what engine and turn stand for then.
use Rattle.std.specs.Prelude.{◌≡◌, None, Result, Ok, Err}
use Rattle.media_disk.specs.declared.device.Device.{Ghosts}
use Rattle.hse_rows.specs.machine.Turn as machine
use Rattle.hse_rows.specs.machine.Calls.{take}
use Rattle.hse_rows.specs.machine.Core.{Core}
use Rattle.hse_rows.specs.machine.CoreRefusal.{refusal}
use Rattle.hse_rows.specs.machine.CoreDone.{done}
use Rattle.kvdb.specs.declared.engine.Kvdb.{Kvdb}
use Rattle.kvdb.specs.declared.turn.Turn.{Turn}
use Rattle.kvdb.specs.declared.turn.TurnFault.{TurnFault}
use Rattle.kvdb.specs.declared.turn.TurnWish.{TurnWish}
use Rattle.kvdb.specs.declared.turn.TurnWish.TheVariants as wish
use Rattle.kvdb.specs.Says.{SaysTurn}
use Rattle.kvdb.specs.Serves.{Serves}
use Rattle.kvdb.specs.Turns.{TurnOf}

abbrev pub wish_as : TurnWish → machine.TurnWish
wish_as wish.Sync = machine.sync
wish_as (wish.Create name mode prefix) = machine.create name mode prefix
wish_as (wish.Drop name) = machine.drop name

-- Nothing refuses the turn, and engine and turn stand for what it leads to.
pub record Took {D : Type 0} (g : Ghosts D) (m : Core) (what : machine.TurnWish) (turn : Turn D g) (new : Kvdb D g) : Type 0 where
  pub unrefused : refusal m (take what) ≡ None
  pub serves : Serves g new (done m (take what))
  pub turns : TurnOf g turn (done m (take what))

-- A fault is the first refusal of the table, but for want of memory, and the engine stands for what it stood for.
abbrev pub Takes : {D : Type 0} (g : Ghosts D) → Core → machine.TurnWish → Result (Turn D g) TurnFault → Kvdb D g → Type 0
Takes g m what (Ok turn) new = Took g m what turn new
Takes g m what (Err fault) new = SaysTurn fault (refusal m (take what)) × Serves g new m
