-- What the core of the machine is asked, one step each. Transactions are told by their begin order and jobs by their id.
use Rattle.std.specs.Prelude.{ℕ, List}
use Rattle.hse_rows.specs.declared.change.Change.{Change}
use Rattle.hse_rows.specs.rows.Job.{JobWish}
use Rattle.hse_rows.specs.machine.Turn.{TurnWish}

-- who reads or writes
pub data Actor : Type 0 where
  -- none of the transactions
  outside : Actor
  -- the transaction of this begin order
  inside : ℕ → Actor

pub data Call : Type 0 where
  begin : Call
  -- a change of the store of this name
  write_by : Actor → List ℕ → Change → Call
  -- store and key
  get : Actor → List ℕ → List ℕ → Call
  commit : ℕ → Call
  abort : ℕ → Call
  list_stores : Call
  tree : List ℕ → Call
  info : Call
  -- a place among the cursors
  take_place : Call
  give_place : Call
  pick : JobWish → Call
  build : ℕ → Call
  drop_job : ℕ → Call
  next_job : Call
  take : TurnWish → Call
  -- the turn of an install, of the job of this id
  take_install : ℕ → Call
  write_turn : Call
  end_turn : Call
  reopen : Call
