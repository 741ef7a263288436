use Rattle.std.proofs.Common.{◌≡◌, ℕ, ◌+◌, ◌≤◌, suc, List, length, map, take, slice_set, sym, ap, ◌∙◌, arith}
use Rattle.std.proofs.lemmas.List.{length-map, take_all}
use Rattle.hse_rows.specs.script.Cursor.{backward, front}
use Rattle.merge.specs.Places.{place_by, all_placed}
use Rattle.merge.proofs.SeekLemmas.{place-more, placed-all}
use Rattle.merge.proofs.seeks.seek_end.Goals as goal

pub loop-at-preserved : goal.loop-at-preserved
loop-at-preserved g c =
    let next : c.loop-at.at + 1 ≡ suc c.loop-at.at = omega arith in
    let place = place_by backward front in
    ap (λ (n : ℕ). slice_set c.loop-at.places c.loop-at.at n) c.place_of_end.ensures
    ∙ ap (λ (places : List ℕ). slice_set places c.loop-at.at (place (g.R.RowSet.rows c.index-sources-at.result))) c.loop-at.invariant
    ∙ place-more place g.R.RowSet.rows c.args.sources.now c.args.places.now c.loop-at.at c.index-sources-at.result c.loop-at-test.true c.requires c.index-sources-at.is
    ∙ ap (λ (n : ℕ). all_placed place (map g.R.RowSet.rows (take n c.args.sources.now)) c.args.places.now) (sym next)

pub returns : goal.returns
returns g c =
    let place = place_by backward front in
    let whole : take c.loop-at.at c.args.sources.now ≡ c.args.sources.now =
    take_all c.loop-at.at c.args.sources.now (let h : length c.args.sources.now ≤ c.loop-at.at = c.loop-at-test.false in h) in
    c.loop-at.invariant
    ∙ ap (λ sources. all_placed place (map g.R.RowSet.rows sources) c.args.places.now) whole
    ∙ placed-all place (map g.R.RowSet.rows c.args.sources.now) c.args.places.now (length-map c.args.sources.now g.R.RowSet.rows ∙ c.requires)
