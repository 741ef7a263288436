use Rattle.std.proofs.Common.{◌≡◌, length, take}
use Rattle.wal.specs.Logged.{logged_all}
use Rattle.wal.proofs.TextLemmas.{begun}
use Rattle.wal.proofs.encode.put_numbered.Given as goal

abbrev pub invariant-loop-place : goal.invariant-loop-place
invariant-loop-place l = record {
  written : l.into.items ≡ begun l.fn.into.items l.number (logged_all l.writes) (logged_all (take l.place l.writes));
  start : l.start ≡ length l.fn.into.items;
}
