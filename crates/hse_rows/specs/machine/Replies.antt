-- What a call of the machine is answered, and why it is refused. Who is named in a refusal is a begin order or the id of a
-- job, and in a script a name.
use Rattle.std.specs.Prelude.{ℕ, List}
use Rattle.hse_rows.specs.declared.store.Mode.{Mode}
use Rattle.hse_rows.specs.rows.Job.{JobWish, JobState}
use Rattle.hse_rows.specs.machine.Turn.{TurnKind, TurnPhase}

-- a part of the device
pub data Part : Type 0 where
  superblock : Part
  manifest_half : ℕ → Part
  log_segment : ℕ → Part
  slot : ℕ → Part

-- how a transaction ended
pub data Ending : Type 0 where
  by_commit : Ending
  by_abort : Ending

-- why a call is refused, by the table or by what a reopening finds
pub data Refusal (Who : Type 0) : Type 0 where
  bad_line : Refusal Who
  name_used : Refusal Who
  no_name : Refusal Who
  ended_by : Ending → Refusal Who
  store_exists : Refusal Who
  no_store : Refusal Who
  store_mode : Refusal Who
  -- the length that was given
  key_length : ℕ → Refusal Who
  value_length : ℕ → Refusal Who
  prefix_length : ℕ → Refusal Who
  broken : Refusal Who
  -- the limit
  too_many : ℕ → Refusal Who
  spent : Refusal Who
  busy : TurnKind → Refusal Who
  turn_is : TurnPhase → Refusal Who
  -- what is needed and what there is room for
  manifest_full : ℕ → ℕ → Refusal Who
  txn_size : ℕ → ℕ → Refusal Who
  log_full : ℕ → ℕ → Refusal Who
  full : ℕ → ℕ → Refusal Who
  log_busy : Refusal Who
  -- the first begun live transaction that has a change in the store
  store_held : Who → Refusal Who
  -- the job that claims the node
  node_busy : Who → Refusal Who
  -- the first begun live transaction that overlaps, or the first commit that does
  canceled_held : Who → Refusal Who
  canceled_since : ℕ → Refusal Who
  forward_only : Refusal Who
  -- the greatest depth
  depth : ℕ → Refusal Who
  -- how many sets the node has
  no_run : ℕ → Refusal Who
  job_state : JobState → Refusal Who
  -- a part of the device, and the place in it
  not_formed : Part → ℕ → Refusal Who
  -- the version that the device has
  other_version : ℕ → Refusal Who

-- a store in the answer to `stores`
pub record Listed : Type 0 where
  pub name : List ℕ
  pub mode : Mode
  pub prefix_length : ℕ

-- a set in the answer to `tree`: its node's path, its place from the front, its rows and its blocks
pub record ListedSet : Type 0 where
  pub path : List ℕ
  pub index : ℕ
  pub rows : ℕ
  pub blocks : ℕ

-- the figures of `info`
pub record Figures : Type 0 where
  pub number : ℕ
  pub frozen : ℕ
  pub charge : ℕ
  pub free : ℕ
  pub manifest : ℕ

pub data Answer (Who : Type 0) : Type 0 where
  -- a silent line has no reply
  silence : Answer Who
  -- done
  accepted : Answer Who
  -- done, with a number
  ok : ℕ → Answer Who
  -- a turn's device calls are done
  written : Answer Who
  value : List ℕ → Answer Who
  -- no value, or no job
  none : Answer Who
  -- a cursor's key, its key and value, or its end
  at_key : List ℕ → Answer Who
  pair : List ℕ → List ℕ → Answer Who
  at_end : Answer Who
  listed : List Listed → Answer Who
  sets : List ListedSet → Answer Who
  figures : Figures → Answer Who
  pick_next : JobWish → Answer Who
  refused : Refusal Who → Answer Who
  -- memory was wanted
  no_memory : Answer Who
  -- a device call failed
  device_fault : Answer Who
