use Rattle.std.proofs.Common.{◌≡◌, ◌+◌, ◌*◌, ◌≤◌, ◌-◌, length}
use Rattle.hse_fields.specs.BlockReading.{count_all}
use Rattle.kblock.proofs.opening.count_all.Given as goal

abbrev pub invariant-loop : goal.invariant-loop
invariant-loop l = record {
  counted : l.all + count_all (l.count - l.counter) l.rest ≡ count_all l.count l.pages;
  room : 4096 * (l.count - l.counter) ≤ length l.rest;
  small : l.all ≤ 65535 * l.counter;
}
