use Rattle.std.proofs.Common.{◌≡◌, ◌≤◌, ◌+◌, ◌-◌, None}
use Rattle.hse_fields.specs.BlockReading.{keys_of}
use Rattle.kblock.specs.Placing.{below_in}
use Rattle.kblock.specs.Searching.{IsRead}
use Rattle.kblock.proofs.placing.place_in.Given as goal

abbrev pub invariant-loop : goal.invariant-loop
invariant-loop l = record {
  readable : IsRead (keys_of None (l.count - l.counter) l.rest);
  counted : l.below + below_in l.edge (keys_of None (l.count - l.counter) l.rest) ≡ below_in l.edge (keys_of None l.count l.keys);
  small : l.below ≤ l.counter;
}
