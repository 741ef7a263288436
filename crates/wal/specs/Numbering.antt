-- Which entries may come next: they are numbered one after another, but for the numbers that the
-- manifest has taken, and what they take of the segment's room is limited.
use Rattle.std.specs.Prelude.{ℕ, ◌+◌, ◌-◌, List, [], ◌∷◌, Bool, Option, Some, None, nat_lt, nat_le, ◌==◌, ◌&&◌, if◌then◌else◌}
use Rattle.hse_fields.specs.LogText.{Entry}
use Rattle.hse_fields.specs.LogReading.{Rule}
use Rattle.wal.specs.Live.{prefix_fits}
use Rattle.wal.specs.Logged.{charge}
use Rattle.wal.specs.declared.live.StorePrefix.{StorePrefix}

-- what is known between two entries
pub record Numbers : Type 0 where
  -- the least number that may come, unless it is taken
  pub next : ℕ
  -- the taken numbers from there on, ascending
  pub taken : List ℕ
  -- what the segment has left of its room
  pub room : ℕ

-- the first number from this one on that is not taken
abbrev pub free_from : ℕ → List ℕ → ℕ
free_from next [] = next
free_from next (t ∷ ts) = if nat_lt next t then next else (if t == next then free_from (next + 1) ts else free_from next ts)

-- the taken numbers behind it
abbrev pub taken_from : ℕ → List ℕ → List ℕ
taken_from next [] = []
taken_from next (t ∷ ts) = if nat_lt next t then t ∷ ts else (if t == next then taken_from (next + 1) ts else taken_from next ts)

-- the greatest number of a history
abbrev pub last_number : ℕ
last_number = 4611686018427387904

abbrev pub is_next : Numbers → ℕ → Bool
is_next s number = (number == free_from s.next s.taken) && nat_le number last_number

-- what is known after an entry, where the room is enough for it
abbrev pub after : Numbers → Entry → Option Numbers
after s e =
    if nat_lt s.room (charge e) then None
    else Some (record { next = e.number + 1; taken = taken_from s.next s.taken; room = s.room - charge e })

-- with these live stores
abbrev pub numbering : List StorePrefix → Rule Numbers
numbering live = record { prefix_fits = prefix_fits live; number_fits = is_next; after = after }
