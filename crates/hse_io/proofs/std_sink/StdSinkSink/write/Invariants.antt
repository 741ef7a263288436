-- The bytes done are appended, and no fault has come.
use Rattle.std.proofs.Common.{length, ◌≡◌, ◌≤◌, take}
use Rattle.std.specs.Io.KnownBytes.{Appends}
use Rattle.hse_io.proofs.std_sink.StdSinkSink.write.Given as goal

abbrev pub invariant-writes : goal.invariant-writes
invariant-writes g l = record {
  within : l.done ≤ length l.bytes;
  appended : Appends l.initial.self.told l.self.told (take l.done l.bytes);
  faults : l.self.faults ≡ l.initial.self.faults;
}
