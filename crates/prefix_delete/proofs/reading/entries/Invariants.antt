use Rattle.std.proofs.Common.{◌≡◌, ◌-◌, map}
use Rattle.hse_fields.specs.BlockReading.{prefixes_of}
use Rattle.prefix_delete.specs.Blocks.{in_block, last_prefix}
use Rattle.hse_fields.specs.BlockGiven.{lent}
use Rattle.prefix_delete.proofs.ReadingLoop.{with_beginning}
use Rattle.prefix_delete.proofs.reading.entries.Given as goal

abbrev pub invariant-loop : goal.invariant-loop
invariant-loop l =
    with_beginning (map in_block l.entries.items) (prefixes_of (last_prefix (lent l.last) l.entries.items) (l.count - l.counter) l.rest)
    ≡ prefixes_of (lent l.last) l.count l.bytes
