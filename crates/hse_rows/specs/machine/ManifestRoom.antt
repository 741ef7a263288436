-- The manifest's room: how many bytes its entries take, and when it goes to its other half.
use Rattle.std.specs.Prelude.{ℕ, ◌+◌, ◌-◌, ◌*◌, ◌^◌, nat_le, nat_lt, ◌&&◌, ◌||◌, not, Bool, if◌then◌else◌, List, length, sum_by}
use Rattle.hse_rows.specs.states.State.{Store}
use Rattle.hse_rows.specs.rows.Layout.{RowsInBlocks, Node, Layout, NewSet}
use Rattle.hse_rows.specs.machine.TakenRuns.{runs_of}

pub record ManifestState : Type 0 where
  -- the sequence of the half in force
  pub sequence : ℕ
  -- the bytes of that half that are used
  pub used : ℕ
  -- the numbers of creations and drops above the log's horizon, ascending
  pub taken : List ℕ

-- a batch of a half: its gate and its length, and its payload
abbrev pub batch_bytes : ℕ → ℕ
batch_bytes payload = 5 + payload

-- the head of a half: its gate, its sequence and the gate of the first batch
abbrev pub head_bytes : ℕ
head_bytes = 10

-- A creation: kind, number, the name and its length, mode and prefix length.
abbrev pub creation_bytes : List ℕ → ℕ
creation_bytes name = 12 + length name

-- a drop: kind, number and id
abbrev pub drop_bytes : ℕ
drop_bytes = 17

-- A store: id, the name and its length, mode, prefix length and the count of its nodes.
abbrev pub store_bytes : Store → ℕ
store_bytes store = 15 + length store.name

-- a path: its depth and its digits
abbrev pub path_bytes : List ℕ → ℕ
path_bytes path = 1 + length path

-- A set: how many blocks of each kind it has, and their slots.
abbrev pub set_bytes : RowsInBlocks → ℕ
set_bytes set = 12 + 4 * (set.prefix_blocks + set.key_blocks + set.value_blocks)

-- a node: path, and its sets with their count
abbrev pub node_bytes : Node → ℕ
node_bytes node = path_bytes node.path + 4 + sum_by set_bytes node.sets

-- An ingest: kind, horizon, first segment, and the new sets with their count, each with its store's id.
abbrev pub ingest_bytes : List NewSet → ℕ
ingest_bytes sets = 21 + sum_by (λ (new : NewSet). 8 + set_bytes new.set) sets

-- A job on a run: kind, id, path, the older sets behind, the length, and the new sets with their count, each with its path.
abbrev pub run_bytes : List ℕ → List NewSet → ℕ
run_bytes path sets =
    9 + path_bytes path + 8 + 4 + sum_by (λ (new : NewSet). path_bytes new.path + set_bytes new.set) sets

-- The whole state: kind, horizon, first segment, the taken numbers in runs and the stores, each list with its count, and
-- the nodes of the stores.
abbrev pub base_bytes : List ℕ → List Store → Layout → ℕ
base_bytes taken stores layout =
    25 + 8 * length (runs_of taken) + sum_by store_bytes stores + sum_by node_bytes layout

-- the greatest sequence
abbrev pub greatest_sequence : ℕ
greatest_sequence = 2 ^ 62

-- what a new half has room for
abbrev pub half_room : ℕ → ℕ
half_room half_size = half_size - head_bytes

-- a batch of this need goes into the half in force
abbrev pub fits : ℕ → ManifestState → ℕ → Bool
fits half_size manifest need = nat_le need (half_size - manifest.used)

-- no new half can be started with the whole state
abbrev pub cannot_roll : ℕ → ManifestState → ℕ → Bool
cannot_roll half_size manifest base_need =
    nat_lt (half_room half_size) base_need || nat_le greatest_sequence manifest.sequence

-- a batch of the first need does not fit, and no new half can be started
abbrev pub goes_into_no_half : ℕ → ManifestState → ℕ → ℕ → Bool
goes_into_no_half half_size manifest need base_need =
    not (fits half_size manifest need) && cannot_roll half_size manifest base_need

-- A batch of the first need is added, or where it does not fit the other half is started with the whole state.
abbrev pub gained : ℕ → ManifestState → ℕ → ℕ → List ℕ → ManifestState
gained half_size manifest need base_need taken =
    if fits half_size manifest need
    then record { sequence = manifest.sequence; used = manifest.used + need; taken = taken }
    else record { sequence = manifest.sequence + 1; used = head_bytes + base_need; taken = taken }
