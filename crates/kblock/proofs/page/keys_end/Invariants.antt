use Rattle.std.proofs.Common.{◌≡◌, ◌-◌}
use Rattle.hse_fields.specs.BlockReading.{keys_of}
use Rattle.hse_fields.specs.BlockGiven.{lent}
use Rattle.kblock.specs.Reading.{ends}
use Rattle.kblock.proofs.page.keys_end.Given as goal

abbrev pub invariant-loop : goal.invariant-loop
invariant-loop l =
    ends (lent l.above) (keys_of (lent l.above) (l.count - l.counter) l.rest) ≡ ends (lent l.last) (keys_of (lent l.last) l.count l.bytes)
