use Rattle.std.proofs.Common.{take}
use Rattle.prefix_delete.specs.Blocks.{KeepsUsed}
use Rattle.prefix_delete.specs.Prefixes.{AreUsed}
use Rattle.prefix_delete.proofs.prefix_list.mark.Given as goal

abbrev pub invariant-loop-entry : goal.invariant-loop-entry
invariant-loop-entry l = record {
  marked : AreUsed l.used (take l.entry-index l.entries);
  kept : KeepsUsed l.fn.used l.used;
}
