use Rattle.std.proofs.Common.{◌≡◌, ℕ, ◌+◌, suc, List, get_or, map, take, slice_set, sym, ap, ◌∙◌, arith}
use Rattle.merge.specs.Places.{direction_of, all_passed, passed}
use Rattle.merge.proofs.TurnLemmas.{pass-more}
use Rattle.merge.proofs.steps.pass.Goals as goal

pub loop-at-preserved : goal.loop-at-preserved
loop-at-preserved g c =
    let next : c.loop-at.at + 1 ≡ suc c.loop-at.at = omega arith in
    let rows = g.R.RowSet.rows in
    let direction = direction_of c.args.reverse in
    ap (λ (n : ℕ). slice_set c.loop-at.places c.loop-at.at n) c.place_past.ensures
    ∙ ap (λ (places : List ℕ). slice_set places c.loop-at.at (passed direction c.args.key.now (rows c.index-sources-at.result) (get_or places c.loop-at.at 0)))
    c.loop-at.invariant
    ∙ pass-more direction rows c.args.key.now c.args.sources.now c.args.places.now c.loop-at.at c.index-sources-at.result c.loop-at-test.true c.requires c.index-sources-at.is
    ∙ ap (λ (n : ℕ). all_passed direction c.args.key.now (map rows (take n c.args.sources.now)) c.args.places.now) (sym next)
