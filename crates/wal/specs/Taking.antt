-- What takes the commits of a log one by one, as they are read.
use Rattle.std.specs.Prelude.{◌≡◌, ℕ, ◌+◌, ◌≤◌, List, ◌++◌, Result, Ok, Err}
use Rattle.gate_log.specs.declared.front.End.TheVariants.{Closed}
use Rattle.gate_log.specs.declared.front.Front.{Front}
use Rattle.hse_fields.specs.LogText.{Entry}
use Rattle.hse_fields.specs.declared.refusal.Refusal.{Refusal}
use Rattle.wal.specs.Charges.{charges}
use Rattle.wal.specs.Given.{Fails, Refuses}
use Rattle.wal.specs.Numbering.{Numbers}
use Rattle.wal.specs.declared.segment.SegmentEnd.{SegmentEnd}
use Rattle.wal.specs.declared.segment.SegmentFault.{SegmentFault}

-- Behind whatever entries were taken before, these were taken.
abbrev pub Takes : (List Entry → Type 0) → (List Entry → Type 0) → List Entry → Type 0
Takes old new entries = (before : List Entry) → old before → new (before ++ entries)

-- The entries that reading gives were taken, unless it fails.
abbrev pub GivesTo : {X Y : Type 0} → (List Entry → X → Y) → (List Entry → Type 0) → (List Entry → Type 0)
    → Result X Refusal → Result Y ℕ → Type 0
GivesTo view old new (Ok x) read = (entries : List Entry) × (read ≡ Ok (view entries x)) × Takes old new entries
GivesTo view old new (Err refusal) read = Fails refusal read

-- the same of what a reader of a whole segment gives
abbrev pub TellsTo : {X Y : Type 0} → (List Entry → X → Y) → (List Entry → Type 0) → (List Entry → Type 0)
    → Result X SegmentFault → Result Y ℕ → Type 0
TellsTo view old new (Ok x) read = (entries : List Entry) × (read ≡ Ok (view entries x)) × Takes old new entries
TellsTo view old new (Err fault) read = Refuses fault read

-- The entries that were read of batches were taken, and the segment ends so.
pub record IsTaken (read : Result (List Entry × Numbers) ℕ) (old new : List Entry → Type 0) (front : Front)
    (end : SegmentEnd) : Type 0 where
  pub entries : List Entry
  pub last : Numbers
  pub is : read ≡ Ok (entries, last)
  pub taken : Takes old new entries
  pub sequence : end.sequence ≡ front.sequence
  pub closed : front.end ≡ Closed end.tail
  pub charges : end.charges ≡ charges entries
  pub next : end.next ≡ last.next
  -- the batches take no more than 9 bytes beside the charges
  pub placed : end.tail.place ≤ 9 + end.charges

-- The answer is what was read.
abbrev pub SaysTo : Result (List Entry × Numbers) ℕ → (List Entry → Type 0) → (List Entry → Type 0) → Front
    → Result SegmentEnd SegmentFault → Type 0
SaysTo read old new front (Ok end) = IsTaken read old new front end
SaysTo read old new front (Err fault) = Refuses fault read
