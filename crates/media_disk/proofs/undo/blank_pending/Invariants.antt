use Rattle.std.proofs.Common.{◌≡◌, ◌≤◌, length}
use Rattle.std.specs.VecDeque.{deque_len}
use Rattle.media_disk.specs.Filled.{byte_of}
use Rattle.media_disk.specs.Record.{pending_of, reach}
use Rattle.media_disk.proofs.undo.blank_pending.Given as goal

abbrev pub invariant-loop-call : goal.invariant-loop-call
invariant-loop-call l = record {
  same : byte_of l.byte (pending_of l.calls.items) l.bytes.items ≡ byte_of l.byte (pending_of l.initial.calls.items) l.initial.bytes.items;
  within : reach l.calls.items ≤ length l.bytes.items;
}

abbrev pub decreases-loop-call : goal.decreases-loop-call
decreases-loop-call l = deque_len l.calls
