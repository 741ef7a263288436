use Rattle.std.proofs.Common.{◌≡◌, ◌≤◌, length, ◌-◌, ◌+◌}
use Rattle.hse_fields.specs.LogLimits.{longest_value}
use Rattle.hse_fields.specs.BlockReading.{values_of}
use Rattle.hse_fields.specs.BlockText.{header_size}
use Rattle.vblock.specs.Opened.{found_in, IsRead}
use Rattle.vblock.proofs.value_block.value_in.Given as goal

abbrev pub invariant-loop : goal.invariant-loop
invariant-loop l = record {
  readable : IsRead (values_of longest_value (l.count - l.counter) l.rest);
  found : found_in l.at l.offset l.len (values_of longest_value (l.count - l.counter) l.rest)
      ≡ found_in header_size l.offset l.len (values_of longest_value l.count l.entries);
  place : l.at + length l.rest ≤ header_size + length l.entries;
}
