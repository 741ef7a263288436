use Rattle.std.proofs.Common.{◌≡◌, ◌+◌, ◌*◌, ◌≤◌, ◌-◌, length}
use Rattle.hse_fields.specs.BlockReading.{pages_of}
use Rattle.hse_fields.specs.BlockText.{header_size}
use Rattle.hse_fields.specs.BlockGiven.{lent}
use Rattle.kblock.specs.Reading.{passes}
use Rattle.kblock.proofs.opening.test_pages.Given as goal

abbrev pub invariant-loop : goal.invariant-loop
invariant-loop l = record {
  read : passes (pages_of l.start (lent l.above) (l.count - l.counter) l.rest) ≡ passes (pages_of header_size (lent l.last) l.count l.pages);
  room : 4096 * (l.count - l.counter) ≤ length l.rest;
  small : l.start ≤ 16 + 4096 * l.counter;
}
