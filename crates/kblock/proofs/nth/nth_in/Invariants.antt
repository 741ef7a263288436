use Rattle.std.proofs.Common.{◌≡◌, ◌-◌, None}
use Rattle.hse_fields.specs.BlockReading.{count_in, keys_of}
use Rattle.kblock.specs.Searching.{nth_of, page_keys, IsRead}
use Rattle.kblock.proofs.nth.nth_in.Given as goal

abbrev pub invariant-loop : goal.invariant-loop
invariant-loop l = record {
  readable : IsRead (keys_of None (count_in l.page - l.counter) l.rest);
  found : nth_of (l.at - l.counter) (keys_of None (count_in l.page - l.counter) l.rest) ≡ nth_of l.at (page_keys l.page);
}
