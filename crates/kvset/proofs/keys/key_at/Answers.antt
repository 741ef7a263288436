use Rattle.std.proofs.Common.{◌≡◌, ◌∙◌, ◌-◌, ap, sym, arith}
use Rattle.std.specs.Prelude.{slice_get}
use Rattle.kvset.specs.Keys.{all_keys}
use Rattle.kvset.proofs.KeyLemmas.{HasNth, counted, got, nth_key, some_part}
use Rattle.kvset.proofs.keys.key_at.Goals as goal

pub overflow_sub-part : goal.overflow_sub-part
overflow_sub-part c =
    some_part c.args.parts.now c.requires.parts c.args.at c.requires.within c.parts_to.result c.parts_to.ensures.above

nth : (c : goal.After-index-parts-parts_to) → HasNth 0 c.args.at c.args.parts.now c.index-parts-parts_to.result
nth c =
    let parts = c.args.parts.now in
    let behind = c.parts_to.result in
    let some = some_part parts c.requires.parts c.args.at c.requires.within behind c.parts_to.ensures.above in
    let i = behind - 1 in
    let part = c.index-parts-parts_to.result in
    let here = got parts i _ part (omega (arith, some, c.parts_to.ensures.within)) c.index-parts-parts_to.is in
    nth_key parts c.requires.parts c.args.at c.requires.within behind i part (omega (arith, some)) here c.parts_to.ensures.below c.parts_to.ensures.above

pub overflow_sub-at : goal.overflow_sub-at
overflow_sub-at c = (nth c).low

pub entry-requires : goal.entry-requires
entry-requires c = let n = (nth c).within in omega (arith, n, counted c.index-parts-parts_to.result.block)

pub returns : goal.returns
returns c =
    let n = nth c.before in
    let whole : c.args.at - 0 ≡ c.args.at = omega arith in
    ap (slice_get (all_keys c.args.parts.now)) (sym whole) ∙ sym n.found ∙ c.entry.ensures
