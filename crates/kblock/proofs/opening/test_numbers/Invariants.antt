use Rattle.std.proofs.Common.{◌≡◌, ◌*◌, ◌≤◌, ◌-◌, length}
use Rattle.hse_fields.specs.BlockReading.{counts_of}
use Rattle.kblock.proofs.opening.test_numbers.Given as goal

abbrev pub invariant-loop : goal.invariant-loop
invariant-loop l = record {
  read : counts_of l.before (l.count - l.counter) l.rest l.left ≡ counts_of 0 l.count l.pages l.numbers;
  room : 4096 * (l.count - l.counter) ≤ length l.rest;
  small : l.before ≤ 65535 * l.counter;
  shorter : length l.left ≤ length l.numbers;
}
