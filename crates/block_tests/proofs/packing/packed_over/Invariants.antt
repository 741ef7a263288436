use Rattle.std.proofs.Common.{◌≡◌, take}
use Rattle.set_build.specs.Packs.{Packs}
use Rattle.block_tests.proofs.KeptRows.{all_kept}
use Rattle.block_tests.proofs.packing.packed_over.Given as goal

-- the rows so far are held
abbrev pub invariant-loop-at : goal.invariant-loop-at
invariant-loop-at g l = Packs (all_kept l.fn.place (take l.at (g.R.RowSet.rows l.fn.rows))) l.packer
