use Rattle.std.proofs.Common.{◌≡◌, ◌++◌, codes, flat_map, length, take}
use Rattle.shell_text.specs.Replies.{ended, counted, store_line}
use Rattle.shell_text.proofs.store_text.append_stores.Given as goal

abbrev pub invariant-loop-store : goal.invariant-loop-store
invariant-loop-store l = record {
  written : l.into.items ≡ l.fn.into.items ++ (ended (counted (codes "stores ") (length l.stores)) ++ flat_map store_line (take l.store-index l.stores));
  start : l.start ≡ length l.fn.into.items;
}
