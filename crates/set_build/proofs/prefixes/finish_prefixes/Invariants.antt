use Rattle.std.proofs.Common.{◌≡◌, ◌≤◌, ◌-◌, ◌++◌, length, drop}
use Rattle.set_build.specs.Packs.{bytes_of}
use Rattle.set_build.proofs.PrefixLemmas.{blocks_of}
use Rattle.set_build.proofs.prefixes.finish_prefixes.Given as goal

-- the blocks so far and those of the rest are those of all
abbrev pub invariant-loop-from : goal.invariant-loop-from
invariant-loop-from l = record {
  within : l.from ≤ length l.list;
  blocks : bytes_of l.done.items ++ blocks_of l.slot (drop l.from l.list) ≡ blocks_of l.slot l.list;
}

abbrev pub decreases-loop-from : goal.decreases-loop-from
decreases-loop-from l = length l.list - l.from
