-- What was read of some of a segment's batches.
use Rattle.std.specs.Prelude.{◌≡◌, ℕ, List, ◌++◌, Ok}
use Rattle.gate_log.specs.declared.front.End.TheVariants.{Closed}
use Rattle.gate_log.specs.declared.region.Tail.{Tail}
use Rattle.hse_fields.specs.LogText.{Entry}
use Rattle.wal.specs.Numbering.{Numbers}
use Rattle.wal.specs.Replaying.{batches_of, segment_of}
use Rattle.wal.specs.declared.live.StorePrefix.{StorePrefix}

-- what was read of batches, the first of which stands anywhere
abbrev pub Reads : List StorePrefix → ℕ → Numbers → List (List ℕ) → List Entry × Numbers → Type 0
Reads live most state payloads read = (gate : ℕ) → batches_of live most state gate payloads ≡ Ok read

-- what was read of the beginning of a segment's batches, and of the others behind it
pub record IsBeginningRead (live : List StorePrefix) (most : ℕ) (start : Numbers) (payloads others : List (List ℕ))
    (entries : List Entry) (last : Numbers) : Type 0 where
  pub beginning : List Entry
  pub middle : Numbers
  pub behind : List Entry
  pub beginning_read : (tail : Tail) → segment_of live most start payloads (Closed tail) ≡ Ok (beginning, middle)
  pub behind_read : Reads live most middle others (behind, last)
  pub joined : entries ≡ beginning ++ behind
