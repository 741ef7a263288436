-- Which commits the log can spell.
use Rattle.std.specs.Prelude.{ℕ, ◌^◌, ◌<◌, ◌≤◌, length}
use Rattle.std.specs.List.{All}
use Rattle.std.specs.List.Sorted.{IsStrictlySortedBy}
use Rattle.hse_rows.specs.writes.Change.{FitsLimits}
use Rattle.hse_rows.specs.writes.NormalForm.{write_cmp}
use Rattle.hse_rows.specs.declared.write.Write.{Write}
use Rattle.wal.specs.Logged.{logged}
use Rattle.wal.specs.declared.commit.Commit.{Commit}

-- a write of a store and a change that can be written, whose value has at most so many bytes
pub record IsWritable (most : ℕ) (w : Write) : Type 0 where
  pub store : w.store.0 < 2 ^ 64
  pub limits : FitsLimits w.change
  pub value : length (logged w).value ≤ most

-- a number and a count that can be written, and writes in the order of a normal form
pub record IsWritableCommit (most : ℕ) (c : Commit) : Type 0 where
  pub number : c.number < 2 ^ 64
  pub some : 1 ≤ length c.writes
  pub counted : length c.writes < 2 ^ 32
  pub in_order : IsStrictlySortedBy write_cmp c.writes
  pub writes : All (IsWritable most) c.writes
