use Rattle.std.proofs.Common.{◌≡◌, ◌≤◌, ◌+◌, ◌-◌, ◌++◌, length}
use Rattle.hse_fields.specs.LogLimits.{longest_value}
use Rattle.hse_fields.specs.BlockReading.{values_of}
use Rattle.hse_fields.specs.BlockText.{header_size}
use Rattle.vblock.specs.Opened.{read_of, IsRead}
use Rattle.vblock.specs.Places.{offsets_from, offsets_of}
use Rattle.vblock.proofs.places.offsets_in.Given as goal

abbrev pub invariant-loop : goal.invariant-loop
invariant-loop l = record {
  readable : IsRead (values_of longest_value (l.count - l.counter) l.rest);
  listed : l.offsets.items ++ offsets_from l.at (read_of (values_of longest_value (l.count - l.counter) l.rest)) ≡ offsets_of (read_of (values_of longest_value l.count l.entries));
  place : l.at + length l.rest ≤ header_size + length l.entries;
}
