-- The lives of a run, and how its story goes on.
use Rattle.std.specs.Prelude.{ℕ, List, [], ◌∷◌, ◌++◌, length}
use Rattle.hse_rows.specs.states.State.{State}
use Rattle.hse_rows.specs.states.History.{Event}
use Rattle.hse_rows.specs.machine.Turn.{TurnWish, sync}
use Rattle.hse_rows.specs.machine.Calls.{Call, end_turn}
use Rattle.hse_rows.specs.machine.Core.{Core, Stored, life}
use Rattle.hse_rows.specs.machine.CoreDone.{done, refused_to, failing}
use Rattle.kvdb.specs.Found.{stored_at}
use Rattle.turn_phases.specs.Turns.{turned, turned_badly}
use Rattle.turn_phases.specs.Closing.{finished}

-- what a life began with, and its events
pub record Life : Type 0 where
  pub base : State
  pub history : List Event

abbrev pub life_of : Core → Life
life_of m = record { base = m.timeline.base; history = m.timeline.history }

-- a number of a life, counted from 0
pub record Point : Type 0 where
  pub life : ℕ
  pub number : ℕ

-- The lives that are over, the machine of the one that goes on, and what was answered to be safe, in order.
pub record Story : Type 0 where
  pub past : List Life
  pub machine : Core
  pub marked : List Point

abbrev pub lives_of : Story → List Life
lives_of s = s.past ++ life_of s.machine ∷ []

-- ---- how it goes on

-- in the same life
abbrev pub with_machine : Story → Core → Story
with_machine s m = record s { machine = m }

-- this number of the life that goes on is answered
abbrev pub with_mark : Story → ℕ → Story
with_mark s number = record s { marked = s.marked ++ record { life = length s.past; number = number } ∷ [] }

-- after a call that nothing refused, after one that was refused, and after a device call that failed
abbrev pub stepped : Story → Call → Story
stepped s call = with_machine s (done s.machine call)

abbrev pub refused : Story → Call → Story
refused s call = with_machine s (refused_to s.machine call)

abbrev pub failed : Story → Call → Story
failed s call = with_machine s (failing s.machine call)

-- a turn ended and this number was answered
abbrev pub ended : Story → ℕ → Story
ended s number = with_mark (stepped s end_turn) number

-- all three phases of a turn, and after a device call of it that failed
abbrev pub turned_to : Story → TurnWish → ℕ → Story
turned_to s what number = with_mark (with_machine s (turned s.machine what)) number

abbrev pub turn_failed : Story → TurnWish → Story
turn_failed s what = with_machine s (turned_badly s.machine what)

-- a new life, at what the device has of the last one at this number
abbrev pub reborn : Story → Stored → Story
reborn s stored = record { past = lives_of s; machine = life stored; marked = s.marked }

abbrev pub reopened : Story → ℕ → Story
reopened s number = with_mark (reborn s (stored_at s.machine number)) number

-- the first life
abbrev pub started : Stored → Story
started stored = with_mark (record { past = []; machine = life stored; marked = [] }) stored.base.number

-- a closing ends the turn that is out and makes all safe
abbrev pub closed : Story → ℕ → Story
closed s number = with_mark (with_machine s (turned (finished s.machine) sync)) number
