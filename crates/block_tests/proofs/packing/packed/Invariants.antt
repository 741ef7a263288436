use Rattle.std.proofs.Common.{◌≡◌, take}
use Rattle.set_build.specs.Packs.{Packs}
use Rattle.set_build.specs.laws.Fronts.{written}
use Rattle.block_tests.proofs.packing.packed.Given as goal

-- the rows so far are held
abbrev pub invariant-loop-at : goal.invariant-loop-at
invariant-loop-at g l = Packs (written 65536 (take l.at (g.R.RowSet.rows l.fn.rows))) l.packer
