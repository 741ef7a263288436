-- The lines of a script, as what they ask for. Transactions, cursors and jobs have names.
use Rattle.std.specs.Prelude.{ℕ, List}
use Rattle.hse_rows.specs.declared.change.Change.{Change}
use Rattle.hse_rows.specs.script.Cursor.{Direction}
use Rattle.hse_rows.specs.rows.Job.{JobWish}
use Rattle.hse_rows.specs.machine.Turn.{TurnWish}

-- who reads or writes
pub data Who : Type 0 where
  -- none of the transactions: `@`
  nobody : Who
  -- the transaction that has this name now
  someone : List ℕ → Who

pub data Line : Type 0 where
  begin : List ℕ → Line
  -- a change of the store of this name
  write_by : Who → List ℕ → Change → Line
  -- store and key
  get : Who → List ℕ → List ℕ → Line
  commit : List ℕ → Line
  abort : List ℕ → Line
  list_stores : Line
  tree : List ℕ → Line
  info : Line
  -- cursor, its store, direction and filter
  open_cursor : List ℕ → Who → List ℕ → Direction → List ℕ → Line
  -- cursor and key
  seek : List ℕ → List ℕ → Line
  -- cursor, first key and last key
  seek_range : List ℕ → List ℕ → List ℕ → Line
  read : List ℕ → Line
  update : List ℕ → Line
  close_cursor : List ℕ → Line
  -- a job's name, and what it is asked for
  pick : List ℕ → JobWish → Line
  build : List ℕ → Line
  drop_job : List ℕ → Line
  next_job : Line
  -- a turn's phases; that of an install names its job
  take : TurnWish → Line
  take_install : List ℕ → Line
  write_turn : Line
  end_turn : Line
  -- the phases of a turn in a row
  turn : TurnWish → Line
  -- and those of a job
  job : JobWish → Line
  -- the job that comes next
  auto : Line
  reopen : Line
  -- empty, or a comment
  silent : Line
  -- outside the grammar
  bad : Line
