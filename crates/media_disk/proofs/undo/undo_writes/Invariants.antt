use Rattle.std.proofs.Common.{◌≡◌, ◌≤◌, length}
use Rattle.std.specs.VecDeque.{deque_len}
use Rattle.media_disk.specs.Filled.{old_of}
use Rattle.media_disk.specs.Record.{reach}
use Rattle.media_disk.proofs.undo.undo_writes.Given as goal

abbrev pub invariant-loop-call : goal.invariant-loop-call
invariant-loop-call l = record {
  same : old_of l.calls.items l.bytes.items ≡ old_of l.initial.calls.items l.initial.bytes.items;
  within : reach l.calls.items ≤ length l.bytes.items;
}

abbrev pub decreases-loop-call : goal.decreases-loop-call
decreases-loop-call l = deque_len l.calls
