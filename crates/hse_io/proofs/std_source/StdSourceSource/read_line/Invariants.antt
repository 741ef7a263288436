-- The line so far and what is left are the input, and no fault has come.
use Rattle.std.proofs.Common.{◌≡◌, ◌≤◌, length}
use Rattle.std.specs.Io.KnownBytes.{Keeps, prepend_known}
use Rattle.hse_io.specs.Longest.{longest_line}
use Rattle.hse_io.specs.ReadsOn.{IsOneLine}
use Rattle.hse_io.proofs.std_source.StdSourceSource.read_line.Given as goal

abbrev pub invariant-steps : goal.invariant-steps
invariant-steps g l = record {
  one_line : IsOneLine l.into;
  room : length l.into ≤ longest_line;
  kept : Keeps l.initial.self.told (prepend_known l.into l.self.told);
  faults : l.self.faults ≡ l.initial.self.faults;
}
