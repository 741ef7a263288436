-- What a `MemDisk` shows.
use Rattle.std.specs.Prelude.{◌≡◌, ℕ, ◌+◌, List, []}
use Rattle.media_disk.specs.Lists.{Lists, no_lists}
use Rattle.media_disk.specs.Record.{pending_of, could_of}
use Rattle.media_disk.specs.declared.call.Call.{Call}
use Rattle.media_disk.specs.declared.history.History.{History}
use Rattle.media_disk.specs.declared.mem_disk.MemDisk.{MemDisk}

-- what a read gives
abbrev pub mem_bytes : MemDisk → List ℕ
mem_bytes disk = disk.bytes.items

-- its record
abbrev pub mem_history : MemDisk → History
mem_history disk = disk.history

-- its calls, the newest first
abbrev pub mem_calls : MemDisk → List Call
mem_calls disk = disk.history.calls.items

-- the pending ranges, the newest first
abbrev pub mem_pending : MemDisk → List (ℕ × ℕ)
mem_pending disk = pending_of disk.history.calls.items

-- what a crash since a clock might have left
abbrev pub mem_could : MemDisk → ℕ → List ℕ → Type 0
mem_could disk = could_of disk.history.calls.items disk.bytes.items

-- how many calls there were
abbrev pub mem_clock : MemDisk → ℕ
mem_clock disk = disk.history.clock

-- the calls that are to fail
abbrev pub mem_lists : MemDisk → Lists
mem_lists disk = disk.history.lists

-- how many calls failed because they were listed
abbrev pub mem_listed : MemDisk → ℕ
mem_listed disk = disk.history.listed

-- how many calls failed that the record does not hold
abbrev pub mem_refused : MemDisk → ℕ
mem_refused disk = disk.history.refused

-- a count that rises where a call fails
abbrev pub mem_faults : MemDisk → ℕ
mem_faults disk = disk.history.listed + disk.history.refused

-- other calls are to fail from now on, and all else stays
pub record ListsOnly (old new : MemDisk) (asked : Lists) : Type 0 where
  pub lists : mem_lists new ≡ asked
  pub bytes : mem_bytes new ≡ mem_bytes old
  pub calls : mem_calls new ≡ mem_calls old
  pub clock : mem_clock new ≡ mem_clock old
  pub listed : mem_listed new ≡ mem_listed old
  pub refused : mem_refused new ≡ mem_refused old

-- The device holds these bytes. Nothing is pending, no call was made, and none is listed.
pub record IsFresh (bytes : List ℕ) (disk : MemDisk) : Type 0 where
  pub bytes_are : mem_bytes disk ≡ bytes
  pub pending : mem_pending disk ≡ []
  pub calls : mem_calls disk ≡ []
  pub clock : mem_clock disk ≡ 0
  pub lists : mem_lists disk ≡ no_lists
  pub listed : mem_listed disk ≡ 0
  pub refused : mem_refused disk ≡ 0
