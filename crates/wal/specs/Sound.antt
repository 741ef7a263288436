-- What a segment is that was read of a front, whatever the device tells.
use Rattle.std.specs.Prelude.{◌≡◌, ℕ, ◌+◌, ◌-◌, ◌*◌, ◌<◌, ◌≤◌, List, [], length}
use Rattle.std.specs.List.{All}
use Rattle.gate_log.specs.Places.{tail_of}
use Rattle.gate_log.specs.Reading.{payloads_of}
use Rattle.gate_log.specs.declared.front.End.TheVariants.{Closed}
use Rattle.gate_log.specs.declared.front.Front.{Front}
use Rattle.hse_fields.specs.LogReading.{Follow}
use Rattle.wal.specs.Charges.{charges}
use Rattle.wal.specs.Logged.{entries_of}
use Rattle.wal.specs.Numbered.{AreNumbered}
use Rattle.wal.specs.Numbering.{Numbers, last_number, numbering}
use Rattle.wal.specs.Replaying.{starting}
use Rattle.wal.specs.declared.commit.Commit.{Commit}
use Rattle.wal.specs.declared.live.StorePrefix.{StorePrefix}
use Rattle.wal.specs.declared.segment.Segment.{Segment}

pub record IsSound (size first : ℕ) (taken : List ℕ) (live : List StorePrefix) (front : Front) (segment : Segment) : Type 0 where
  pub sequence : segment.sequence ≡ front.sequence
  -- its gate stands behind the batches, inside the region
  pub closed : front.end ≡ Closed segment.tail
  pub behind : segment.tail.place ≡ tail_of (payloads_of front.batches.items)
  pub inside : segment.tail.place < size
  -- the commits' charges fit, and each takes at least 44 bytes
  pub charged : segment.charges ≡ charges (entries_of segment.commits.items)
  pub fits : segment.charges ≤ size - 64
  pub counted : 44 * length segment.commits.items ≤ segment.charges
  -- the batches take no more than 9 bytes beside the charges: an entry is charged 32 bytes more than it takes
  pub placed : segment.tail.place ≤ 9 + segment.charges
  -- no number is above the greatest one
  pub numbers : All (λ (c : Commit). c.number ≤ last_number) segment.commits.items
  pub small : segment.next ≤ last_number + 1
  -- where no number is taken the commits are numbered one after another
  pub numbered : taken ≡ [] → AreNumbered first (entries_of segment.commits.items)
  pub consecutive : taken ≡ [] → segment.next ≡ first + length segment.commits.items
  -- the commits follow one another, also where numbers are taken
  pub last : Numbers
  pub follows : Follow (numbering live) (starting first taken size) (entries_of segment.commits.items) last
  pub next_is : segment.next ≡ last.next
