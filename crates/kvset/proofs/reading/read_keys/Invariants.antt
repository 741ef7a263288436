use Rattle.std.proofs.Common.{◌≡◌, ◌++◌, length, None}
use Rattle.hse_fields.specs.BlockReading.{last_key}
use Rattle.kvset.specs.Keys.{all_keys, blocks_of, part_slots, AreParts}
use Rattle.kvset.specs.Reading.{pages_of, slots_of}
use Rattle.kvset.proofs.OpeningLemmas.{with_front}
use Rattle.kvset.proofs.reading.read_keys.Given as goal

abbrev pub invariant-loop-block : goal.invariant-loop-block
invariant-loop-block l = record {
  read : with_front (blocks_of l.parts.items) (pages_of (last_key None (all_keys l.parts.items)) l.block-iterator.rest.items) ≡ pages_of None l.fn.blocks.items;
  slots : part_slots l.parts.items ++ slots_of l.block-iterator.rest.items ≡ slots_of l.fn.blocks.items;
  are : AreParts l.parts.items;
  counted : l.count ≡ length (all_keys l.parts.items);
}
