use Rattle.std.proofs.Common.{◌≡◌, map, drop, None}
use Rattle.prefix_delete.specs.Blocks.{in_block, last_prefix}
use Rattle.kvset.specs.Reading.{prefixes_of}
use Rattle.kvset.proofs.OpeningLemmas.{with_front}
use Rattle.kvset.proofs.opening.read_prefixes.Given as goal

abbrev pub invariant-loop-block : goal.invariant-loop-block
invariant-loop-block l =
    with_front (map in_block l.list) (prefixes_of (last_prefix None l.list) (drop l.block-index l.fn.blocks)) ≡ prefixes_of None l.fn.blocks
