use Rattle.std.proofs.Common.{◌≡◌, ◌∙◌, ◌+◌, ◌-◌, ◌/◌, suc, sym, ap, subst, arith}
use Rattle.kvset.specs.Keys.{behind_at, IsUpTo}
use Rattle.kvset.proofs.KeyLemmas.{got, some_in}
use Rattle.kvset.proofs.keys.parts_to.Goals as goal

pub is_behind-requires : goal.is_behind-requires
is_behind-requires c =
    let middle = c.loop-low.low + (c.loop-low.high - c.loop-low.low) / 2 in
    some_in 0 c.args.parts.now middle c.index-parts-middle.result c.requires.numbered
    (got c.args.parts.now middle _ c.index-parts-middle.result (omega (arith, c.loop-low-test.true, c.loop-low.invariant.within)) c.index-parts-middle.is)

pub loop-low-preserved-then-is_behind : goal.loop-low-preserved-then-is_behind
loop-low-preserved-then-is_behind c =
    let middle = c.loop-low.low + (c.loop-low.high - c.loop-low.low) / 2 in
    let here = got c.args.parts.now middle _ c.index-parts-middle.result (omega (arith, c.loop-low-test.true, c.loop-low.invariant.within)) c.index-parts-middle.is in
    record {
      ordered = omega arith;
      within = omega (arith, c.loop-low-test.true, c.loop-low.invariant.within);
      below = c.loop-low.invariant.below;
      above = ap (behind_at c.args.aim) here ∙ sym c.is_behind.ensures ∙ c.if-is_behind.true;
    }

pub loop-low-preserved : goal.loop-low-preserved
loop-low-preserved c =
    let middle = c.loop-low.low + (c.loop-low.high - c.loop-low.low) / 2 in
    let here = got c.args.parts.now middle _ c.index-parts-middle.result (omega (arith, c.loop-low-test.true, c.loop-low.invariant.within)) c.index-parts-middle.is in
    let below : IsUpTo c.args.aim c.args.parts.now (suc middle) = ap (behind_at c.args.aim) here ∙ sym c.is_behind.ensures ∙ c.if-is_behind.false in
    let next : suc middle ≡ middle + 1 = omega arith in
    record {
      ordered = omega (arith, c.loop-low-test.true);
      within = c.loop-low.invariant.within;
      below = subst (IsUpTo c.args.aim c.args.parts.now) next below;
      above = c.loop-low.invariant.above;
    }
