-- What a segment's region says.
use Rattle.std.specs.Prelude.{◌≡◌, ℕ, ◌+◌, ◌-◌, List, [], ◌∷◌, ◌++◌, Result, Ok, Err}
use Rattle.gate_log.specs.Gates.{first_gate}
use Rattle.gate_log.specs.Places.{need_of}
use Rattle.gate_log.specs.Reading.{Ends}
use Rattle.gate_log.specs.declared.front.End.{End}
use Rattle.gate_log.specs.declared.front.End.TheVariants.{Closed, CutOff}
use Rattle.hse_fields.specs.LogText.{Entry}
use Rattle.hse_fields.specs.LogReading.{◌>>=◌, payload_of}
use Rattle.wal.specs.Charges.{charges, end_size}
use Rattle.wal.specs.Logged.{entries_of}
use Rattle.wal.specs.Numbering.{Numbers, numbering}
use Rattle.wal.specs.declared.live.StorePrefix.{StorePrefix}
use Rattle.wal.specs.declared.segment.Segment.{Segment}
use Rattle.wal.specs.declared.segment.SegmentFault.{SegmentFault}
use Rattle.wal.specs.declared.segment.SegmentFault.TheVariants.{Damaged, NoMemory}

-- a refusal so many bytes before this place, as the place of the refused field
abbrev pub before : {X : Type 0} → ℕ → Result X ℕ → Result X ℕ
before end (Ok x) = Ok x
before end (Err left) = Err (end - left)

-- The entries of batches whose first gate stands at this place, and what is known after them; or the place
-- of the first refused field.
unfoldable pub batches_of : List StorePrefix → ℕ → Numbers → ℕ → List (List ℕ) → Result (List Entry × Numbers) ℕ
batches_of live most state gate [] = Ok ([], state)
batches_of live most state gate (payload ∷ payloads) = do
  first ← before (gate + need_of payload) (payload_of (numbering live) most state payload)
  others ← batches_of live most first.1 (gate + need_of payload) payloads
  Ok (first.0 ++ others.0, others.1)

-- a batch that does not lie inside is refused at its length, where nothing before it was
abbrev pub ended : End → List Entry × Numbers → Result (List Entry × Numbers) ℕ
ended (Closed tail) read = Ok read
ended (CutOff place) read = Err place

abbrev pub segment_of : List StorePrefix → ℕ → Numbers → List (List ℕ) → End → Result (List Entry × Numbers) ℕ
segment_of live most start payloads end = batches_of live most start first_gate payloads >>= ended end

-- what is known before the first entry of a segment in a region of this size: 64 bytes are no room
abbrev pub starting : ℕ → List ℕ → ℕ → Numbers
starting next taken size = record { next = next; taken = taken; room = size - end_size }

-- the segment is what the region says
pub record IsSegment (region : List ℕ) (live : List StorePrefix) (most : ℕ) (start : Numbers) (segment : Segment) : Type 0 where
  pub payloads : List (List ℕ)
  pub ends : Ends region segment.sequence payloads (Closed segment.tail)
  pub last : Numbers
  pub read : segment_of live most start payloads (Closed segment.tail) ≡ Ok (entries_of segment.commits.items, last)
  pub next : segment.next ≡ last.next
  pub charges : segment.charges ≡ charges (entries_of segment.commits.items)

-- what was read of batches is the segment
pub record IsRead (read : Result (List Entry × Numbers) ℕ) (segment : Segment) : Type 0 where
  pub last : Numbers
  pub is : read ≡ Ok (entries_of segment.commits.items, last)
  pub next : segment.next ≡ last.next
  pub charges : segment.charges ≡ charges (entries_of segment.commits.items)

-- The answer is what was read.
abbrev pub Says : Result (List Entry × Numbers) ℕ → Result Segment SegmentFault → Type 0
Says read (Ok segment) = IsRead read segment
Says read (Err (Damaged place)) = read ≡ Err place
Says read (Err NoMemory) = Unit {0}

-- the region is refused at this place
pub record IsRefused (region : List ℕ) (live : List StorePrefix) (most : ℕ) (start : Numbers) (place : ℕ) : Type 0 where
  pub sequence : ℕ
  pub payloads : List (List ℕ)
  pub end : End
  pub ends : Ends region sequence payloads end
  pub refused : segment_of live most start payloads end ≡ Err place

-- The answer says what a region with an open head says.
abbrev pub IsReplay : List ℕ → List StorePrefix → ℕ → Numbers → Result Segment SegmentFault → Type 0
IsReplay region live most start (Ok segment) = IsSegment region live most start segment
IsReplay region live most start (Err (Damaged place)) = IsRefused region live most start place
IsReplay region live most start (Err NoMemory) = Unit {0}
