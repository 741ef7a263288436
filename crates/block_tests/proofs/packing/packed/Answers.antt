use Rattle.std.proofs.Common.{◌≡◌, ◌+◌, take, subst}
use Rattle.hse_rows.specs.rows.RowSets.{row_of}
use Rattle.set_build.specs.SetText.{Pushed}
use Rattle.set_build.specs.Packs.{Packs}
use Rattle.set_build.specs.laws.Fronts.{written, next-written, written-next}
use Rattle.block_tests.proofs.packing.packed.Goals as goal

pub push-requires : goal.push-requires
push-requires g c = (
  written 65536 (take c.loop-at.at (g.R.RowSet.rows c.args.rows.now)),
  c.loop-at.invariant,
  next-written 65536 (g.R.RowSet.rows c.args.rows.now) c.loop-at.at (row_of c.row-row.result) c.known.ensures c.row-row.ensures
      (c.fits.ensures c.if-not-fits.false),
)

pub loop-at-preserved : goal.loop-at-preserved
loop-at-preserved g c =
    let rows = g.R.RowSet.rows c.args.rows.now in
    subst (λ (p : Pushed). Packs p c.push.new.self) (written-next 65536 rows c.loop-at.at (row_of c.row-row.result) c.row-row.ensures)
    (c.in_ok-push.ensures.pushed (written 65536 (take c.loop-at.at rows)) c.loop-at.invariant
    (next-written 65536 rows c.loop-at.at (row_of c.row-row.result) c.known.ensures c.row-row.ensures (c.fits.ensures c.if-not-fits.false)))
