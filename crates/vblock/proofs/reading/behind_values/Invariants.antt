use Rattle.std.proofs.Common.{◌≡◌, ◌≤◌, length, ◌-◌}
use Rattle.hse_fields.specs.BlockReading.{behind_of, values_of}
use Rattle.vblock.proofs.reading.behind_values.Given as goal

abbrev pub invariant-loop : goal.invariant-loop
invariant-loop l = record {
  read : behind_of (values_of l.most (l.count - l.counter) l.rest) ≡ behind_of (values_of l.most l.count l.bytes);
  shorter : length l.rest ≤ length l.bytes;
}
