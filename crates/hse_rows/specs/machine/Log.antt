-- The log: commits in layers, and the room of a segment.
use Rattle.std.specs.Prelude.{ℕ, ◌-◌, ◌≤◌, List, [], ◌∷◌, ◌++◌, length, sum_by}
use Rattle.hse_rows.specs.declared.write.Write.{Write}
use Rattle.hse_rows.specs.writes.Charge.{charge_of}

-- a commit's number and its writes, in normal form
pub record Numbered : Type 0 where
  pub number : ℕ
  pub writes : List Write

-- a layer that takes no more commits, with the last number when it was frozen
pub record Frozen : Type 0 where
  pub last : ℕ
  pub commits : List Numbered

pub record LogState : Type 0 where
  -- the last number that no layer of the log is needed for
  pub horizon : ℕ
  -- the sequence of the first segment that is needed
  pub first_segment : ℕ
  -- newest first
  pub frozen : List Frozen
  -- the commits of the active layer, in order
  pub active : List Numbered

-- a log without commits
abbrev pub new_log : LogState
new_log = record { horizon = 0; first_segment = 1; frozen = []; active = [] }

-- the most layers that are frozen
abbrev pub most_frozen : ℕ
most_frozen = 3

abbrev pub IsWithinLayers : LogState → Type 0
IsWithinLayers log = length log.frozen ≤ most_frozen

-- what a layer's commits take of its segment
abbrev pub charge_of_commits : List Numbered → ℕ
charge_of_commits commits = sum_by (λ commit. charge_of commit.writes) commits

-- and those of the active layer
abbrev pub charge_of_active : LogState → ℕ
charge_of_active log = charge_of_commits log.active

-- what a segment of this size has room for
abbrev pub room_of : ℕ → ℕ
room_of segment_size = segment_size - 64

-- and what it has left
abbrev pub room_left : ℕ → LogState → ℕ
room_left segment_size log = room_of segment_size - charge_of_active log

-- one commit more
abbrev pub logged : LogState → ℕ → List Write → LogState
logged log number writes = record log { active = log.active ++ record { number = number; writes = writes } ∷ [] }
