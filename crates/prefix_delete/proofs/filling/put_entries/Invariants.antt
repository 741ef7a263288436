use Rattle.std.proofs.Common.{◌≡◌, ◌≤◌, ◌++◌, length, map, take}
use Rattle.hse_fields.specs.BlockText.{prefixes_text}
use Rattle.prefix_delete.specs.Blocks.{in_block}
use Rattle.prefix_delete.proofs.filling.put_entries.Given as goal

abbrev pub invariant-loop-entry : goal.invariant-loop-entry
invariant-loop-entry l = record {
  put : l.bytes.items ≡ l.fn.bytes.items ++ prefixes_text (map in_block (take l.entry-index l.entries));
  fits : length l.bytes.items ≤ l.slot;
  index : l.count ≡ l.entry-index;
  counted : l.count ≤ length l.bytes.items;
}
