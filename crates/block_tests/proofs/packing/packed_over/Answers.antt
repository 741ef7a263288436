use Rattle.std.proofs.Common.{◌≡◌, ◌+◌, take, subst}
use Rattle.hse_rows.specs.rows.RowSets.{row_of}
use Rattle.set_build.specs.SetText.{Pushed}
use Rattle.set_build.specs.Packs.{Packs}
use Rattle.block_tests.proofs.KeptRows.{all_kept, may-follow, one-more}
use Rattle.block_tests.proofs.packing.packed_over.Goals as goal

pub push-requires : goal.push-requires
push-requires g c =
    let rows = g.R.RowSet.rows c.args.rows.now in
    (all_kept c.args.place (take c.loop-at.at rows), c.loop-at.invariant, may-follow c.args.place rows c.loop-at.at (row_of c.row.result) c.known.ensures c.row.ensures)

pub loop-at-preserved : goal.loop-at-preserved
loop-at-preserved g c =
    let rows = g.R.RowSet.rows c.args.rows.now in
    subst (λ (p : Pushed). Packs p c.push.new.self) (one-more c.args.place rows c.loop-at.at (row_of c.row.result) c.row.ensures)
    (c.in_ok-push.ensures.pushed (all_kept c.args.place (take c.loop-at.at rows)) c.loop-at.invariant
    (may-follow c.args.place rows c.loop-at.at (row_of c.row.result) c.known.ensures c.row.ensures))
