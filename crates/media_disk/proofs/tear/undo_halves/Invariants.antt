use Rattle.std.proofs.Common.{◌≡◌, ◌≤◌, length}
use Rattle.std.specs.VecDeque.{deque_len}
use Rattle.media_disk.specs.Filled.{torn_of}
use Rattle.media_disk.specs.Halves.{put_all, AllFit}
use Rattle.media_disk.specs.Record.{reach}
use Rattle.media_disk.proofs.tear.undo_halves.Given as goal

abbrev pub invariant-loop-call : goal.invariant-loop-call
invariant-loop-call l = record {
  same : put_all l.halves.items (torn_of l.calls.items l.bytes.items) ≡ torn_of l.initial.calls.items l.initial.bytes.items;
  within : reach l.calls.items ≤ length l.bytes.items;
  fit : AllFit (length l.bytes.items) l.halves.items;
}

abbrev pub decreases-loop-call : goal.decreases-loop-call
decreases-loop-call l = deque_len l.calls
