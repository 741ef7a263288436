use Rattle.std.proofs.Common.{◌≡◌, ◌-◌, None}
use Rattle.hse_fields.specs.BlockReading.{keys_of}
use Rattle.kblock.specs.Searching.{found_in, IsRead}
use Rattle.kblock.proofs.search.find_in.Given as goal

abbrev pub invariant-loop : goal.invariant-loop
invariant-loop l = record {
  readable : IsRead (keys_of None (l.count - l.counter) l.rest);
  found : found_in l.key (keys_of None (l.count - l.counter) l.rest) ≡ found_in l.key (keys_of None l.count l.keys);
}
